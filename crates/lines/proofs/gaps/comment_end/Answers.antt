use Rattle.terms.proofs.Common.{sym, ◌∙◌, arith}
use Rattle.lines.proofs.{Laws.comment_end_of, Laws.comment_paren, Laws.comment_lf, Laws.comment_more}
use Rattle.lines.proofs.gaps.comment_end.Goals as goal

pub returns-in-41 : goal.returns-in-41
returns-in-41 c = sym (c.loop-i.invariant ∙ comment_paren c.args.s.now c.loop-i.i (omega arith) c.in-41.is)

pub returns-in-10 : goal.returns-in-10
returns-in-10 c = sym (c.loop-i.invariant ∙ comment_lf c.args.s.now c.loop-i.i (omega arith) c.in-10.is)

pub loop-i-preserved : goal.loop-i-preserved
loop-i-preserved c = c.loop-i.invariant ∙ comment_more c.args.s.now c.loop-i.i (omega arith) (omega arith) (omega arith)

pub returns : goal.returns
returns c = sym (c.loop-i.invariant ∙ comment_end_of c.args.s.now c.loop-i.i (omega arith))
