-- `lines::next_block` meets its contract: from each place reached the block ends where it did.
use Rattle.terms.proofs.Common.{arith}
use Rattle.lines.proofs.{Lines.length_at_lf, Lines.length_at_more, Lines.length_at_end}
use Rattle.lines.proofs.next_block.Goals as goal

pub returns-then-b-eq10 : goal.returns-then-b-eq10
returns-then-b-eq10 c = omega (arith, length_at_lf c.args.s.now c.loop-i.i (omega arith) c.if-b-eq10.true)

pub loop-i-preserved : goal.loop-i-preserved
loop-i-preserved c = omega (arith, length_at_more c.args.s.now c.loop-i.i (omega arith) c.if-b-eq10.false)

pub returns : goal.returns
returns c = omega (arith, length_at_end c.args.s.now c.loop-i.i (omega arith))
