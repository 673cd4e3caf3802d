-- `lines::near_end` meets its contract: from each place reached the block ends where it did.
use Rattle.terms.proofs.Common.{arith}
use Rattle.lines.proofs.near_end.Goals as goal

pub loop-i-preserved : goal.loop-i-preserved
loop-i-preserved c = omega (arith, c.ends_soon.ensures c.if-ends_soon.false)
