use Rattle.terms.proofs.Common.{◌+◌, sym, ◌∙◌, arith}
use Rattle.lines.proofs.{Lines.no_text_end, Lines.no_text_lf, Lines.no_text_other, Lines.no_text_cr, Lines.begins_end, Lines.begins_at}
use Rattle.lines.proofs.text_ends.Goals as goal

pub returns-then-s-at : goal.returns-then-s-at
returns-then-s-at c = let a = c.args in sym (no_text_end a.s.now a.at c.if-s-at.true)

pub returns-then-s-at-eq10 : goal.returns-then-s-at-eq10
returns-then-s-at-eq10 c = let a = c.args in sym (no_text_lf a.s.now a.at (omega arith) c.if-s-at-eq10.true)

pub returns-then-s-at-ne13 : goal.returns-then-s-at-ne13
returns-then-s-at-ne13 c = let a = c.args in sym (no_text_other a.s.now a.at (omega arith) c.if-s-at-eq10.false c.if-s-at-ne13.true)

pub returns-then-s-next : goal.returns-then-s-next
returns-then-s-next c =
    let a = c.args in
    sym (no_text_cr a.s.now a.at (omega arith) c.if-s-at-ne13.false ∙ begins_end 10 a.s.now (a.at + 1) c.if-s-next.true)

pub returns : goal.returns
returns c =
    let a = c.args in
    sym (no_text_cr a.s.now a.at (omega arith) c.if-s-at-ne13.false ∙ begins_at 10 a.s.now (a.at + 1) (omega arith))
