-- `runs::is_spent` meets its contract, budget by budget.
use Rattle.terms.proofs.Common.{sym, ◌∙◌, eq-eqb, ne_eqb}
use Rattle.runs.specs.Walk.{is_spent}
use Rattle.runs.proofs.is_spent.Goals as goal

pub returns-in-First-eq0 : goal.returns-in-First-eq0
unfolding is_spent
returns-in-First-eq0 c =
    let f = c.in-First-eq0 in
    rw f.is (sym (eq-eqb f.field-0 0 (sym f.field-0-is ∙ f.field-0-test)))

pub returns-in_default : goal.returns-in_default
unfolding is_spent
returns-in_default c =
    let f = c.in_default in
    rw f.is (sym (ne_eqb f.field-0 0 (λ e. f.field-0-test.1 (f.field-0-is ∙ e))))

pub returns-in_default-2 : goal.returns-in_default-2
unfolding is_spent
returns-in_default-2 c = rw c.in_default.is
