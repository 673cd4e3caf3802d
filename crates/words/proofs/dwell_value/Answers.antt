-- `words::dwell_value` meets its contract.
use Rattle.words.proofs.{Worth.dwell_fine, Worth.dwell_is}
use Rattle.words.proofs.dwell_value.Goals as goal

pub returns-then-n-gt3 : goal.returns-then-n-gt3
returns-then-n-gt3 c = dwell_fine _ c.if-n-gt3.true

pub returns : goal.returns
returns c = rw (c.checked.ensures, c.at_most-2.ensures, c.at_most.ensures) (dwell_is _ c.steps.result _ _ _ c.if-n-gt3.false c.steps.ensures c.signed-z.ensures c.zero.ensures.is c.of_count.ensures.is)
