-- `words::feed_value` meets its contract.
use Rattle.terms.proofs.Common.{sym, ◌∙◌, pos, lt_z}
use Rattle.words.proofs.{Worth.further_bad, Worth.further}
use Rattle.words.proofs.feed_value.Goals as goal

pub returns-in_err-z : goal.returns-in_err-z
returns-in_err-z c = let none = c.from_residual.ensures in further_bad _ _ _ _ (none ∙ sym c.in_err-z.was ∙ c.length_value.ensures) none

pub returns : goal.returns
returns c = rw (c.checked.ensures, c.below.ensures, c.zero.ensures.is) (further (lt_z (pos 0)) _ _ _ _ c.length_value.ensures c.in_ok-z.was)
