use Rattle.terms.proofs.Common.{sym, ◌∙◌, arith}
use Rattle.lines.proofs.{Lines.percent_end, Lines.percent_not, Lines.percent_at}
use Rattle.lines.proofs.is_percent.Goals as goal

pub returns-then-s-at : goal.returns-then-s-at
returns-then-s-at c = let a = c.args in sym (percent_end a.s.now a.at c.if-s-at.true)

pub returns-then-s-at-ne37 : goal.returns-then-s-at-ne37
returns-then-s-at-ne37 c = let a = c.args in sym (percent_not a.s.now a.at (omega arith) c.if-s-at-ne37.true)

pub returns : goal.returns
returns c =
    let a = c.args in
    c.text_ends.ensures ∙ sym (percent_at a.s.now a.at (omega arith) c.if-s-at-ne37.false)
