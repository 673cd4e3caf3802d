use Rattle.terms.proofs.Common.{sym, ◌∙◌, ap, arith}
use Rattle.lines.specs.Gaps.{only_gaps}
use Rattle.programs.proofs.Numbers.{opening_many, opening_few, opening_zero, opening_large, opening_more, opening_number, digits_inside, after_digits}
use Rattle.programs.proofs.read_opening.Goals as goal

pub returns-in_err-d : goal.returns-in_err-d
returns-in_err-d c = rw c.from_residual.ensures (sym (opening_many _ c.in_err-d.ensures))

pub returns-then-d-eq0 : goal.returns-then-d-eq0
returns-then-d-eq0 c = sym (opening_few c.in_ok-d.ensures c.if-d-eq0.true)

pub returns-then-d-eq0-2 : goal.returns-then-d-eq0-2
returns-then-d-eq0-2 c = sym (opening_zero c.in_ok-d.ensures c.if-d-eq0.false c.if-d-eq0-2.true)

pub returns-then-d-gt9999 : goal.returns-then-d-gt9999
returns-then-d-gt9999 c = sym (opening_large c.in_ok-d.ensures c.if-d-eq0.false c.if-d-gt9999.true)

pub only_gaps-requires : goal.only_gaps-requires
only_gaps-requires c =
    digits_inside c.args.s.now c.args.at c.in_ok-d.d (omega arith) c.in_ok-d.ensures

pub returns-then-only_gaps : goal.returns-then-only_gaps
returns-then-only_gaps c =
    let is = c.in_ok-d.ensures in
    sym
    (opening_number is c.if-d-eq0.false c.if-d-eq0-2.false c.if-d-gt9999.false
    (ap only_gaps (after_digits c.args.s.now c.args.at c.in_ok-d.d (omega arith) is)
    ∙ sym c.only_gaps.ensures ∙ c.if-only_gaps.true))

pub returns-else-only_gaps : goal.returns-else-only_gaps
returns-else-only_gaps c =
    let is = c.in_ok-d.ensures in
    sym
    (opening_more is c.if-d-eq0.false c.if-d-eq0-2.false c.if-d-gt9999.false
    (ap only_gaps (after_digits c.args.s.now c.args.at c.in_ok-d.d (omega arith) is)
    ∙ sym c.only_gaps.ensures ∙ c.if-only_gaps.false))
