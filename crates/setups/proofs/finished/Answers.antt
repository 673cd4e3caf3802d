-- `setups::finished` meets its contract: the place of the next word is the text's end, or something stands there.
use Rattle.setups.proofs.{Filling.more_left, Filling.nothing_left}
use Rattle.setups.proofs.finished.Goals as goal

pub returns-then-place-s : goal.returns-then-place-s
returns-then-place-s c = more_left _ _ _ _ c.next_word-place.ensures c.if-place-s.true

pub returns : goal.returns
returns c = nothing_left _ _ _ _ _ c.next_word-place.ensures c.if-place-s.false c.setup_of.ensures
