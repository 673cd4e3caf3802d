-- `texts::in_word` meets its contract.
use Rattle.texts.proofs.in_word.Goals as goal

pub returns : goal.returns
returns c = rw c.is_blank.ensures
