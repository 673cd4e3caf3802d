-- `runs::one_less` meets its contract, budget by budget.
use Rattle.terms.proofs.Common.{sym, ap, ◌∙◌, arith, rules, eqb-false}
use Rattle.runs.specs.Walk.{is_spent, one_less}
use Rattle.runs.proofs.one_less.Goals as goal

pub overflow_sub-result : goal.overflow_sub-result
unfolding is_spent
overflow_sub-result c =
    omega (arith, eqb-false c.in-First.n 0 (sym (ap is_spent c.in-First.is) ∙ c.requires))

pub enum_told-1 : goal.enum_told-1
unfolding one_less
enum_told-1 c = search rules

pub enum_known-b : goal.enum_known-b
unfolding one_less
enum_known-b c = search rules

pub returns-in-Whole : goal.returns-in-Whole
unfolding one_less
returns-in-Whole c = sym (ap one_less c.in-Whole.is)

pub returns-in-First : goal.returns-in-First
unfolding one_less
returns-in-First c = sym (ap one_less c.in-First.is)
