-- `answers::places::text_end` meets its contract. What is left gives the same.
use Rattle.terms.proofs.Common.{sym, ◌∙◌, arith}
use Rattle.answers.proofs.{Lines.text_over, Lines.text_more, Lines.text_past}
use Rattle.answers.proofs.places.text_end.Goals as goal

pub returns-then-text_ends : goal.returns-then-text_ends
returns-then-text_ends c =
    omega (arith, text_over c.args.s.now c.loop-i.i (sym c.text_ends.ensures ∙ c.if-text_ends.true))

pub loop-i-preserved : goal.loop-i-preserved
loop-i-preserved c =
    omega (arith, text_more c.args.s.now c.loop-i.i (sym c.text_ends.ensures ∙ c.if-text_ends.false))

pub returns : goal.returns
returns c =
    omega (arith, text_past c.args.s.now c.loop-i.i (omega arith))
