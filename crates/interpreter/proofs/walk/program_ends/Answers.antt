-- `interpreter::walk::program_ends` meets its contract.
use Rattle.terms.proofs.Common.{sym, ◌∙◌, arith}
use Rattle.interpreter.proofs.{Walking.ends_past, Walking.ends_opening, Walking.ends_percent}
use Rattle.interpreter.proofs.walk.program_ends.Goals as goal

pub returns-then-s-at : goal.returns-then-s-at
returns-then-s-at c = sym (ends_past c.args.s.now c.args.at (omega arith))

pub returns-then-begins_with : goal.returns-then-begins_with
returns-then-begins_with c =
    let a = c.args in
    sym (ends_opening a.s.now a.at (omega arith) (sym c.begins_with.ensures ∙ c.if-begins_with.true))

pub returns : goal.returns
returns c =
    let a = c.args in
    c.is_percent.ensures
    ∙ sym (ends_percent a.s.now a.at (omega arith) (sym c.begins_with.ensures ∙ c.if-begins_with.false))
