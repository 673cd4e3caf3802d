-- `words::count_of` meets its contract.
use Rattle.terms.proofs.Common.{arith}
use Rattle.words.proofs.{Worth.count_is}
use Rattle.words.proofs.count_of.Goals as goal

pub returns-then-below : goal.returns-then-below
returns-then-below c = count_is _ _ _ _ _ c.signed.ensures c.zero.ensures.is c.below.ensures (rw c.if-below.true)

pub returns-then-n-le9999 : goal.returns-then-n-le9999
returns-then-n-le9999 c = count_is _ _ _ _ _ c.signed.ensures c.zero.ensures.is c.below.ensures (rw c.if-below.false (omega arith))

pub returns-else-n-le9999 : goal.returns-else-n-le9999
returns-else-n-le9999 c = count_is _ _ _ _ _ c.signed.ensures c.zero.ensures.is c.below.ensures (rw c.if-below.false (omega arith))
