-- `cases::report_to` meets its contract: so many blocks, or the whole run.
use Rattle.cases.specs.Budgets.{budget_by}
use Rattle.cases.proofs.report_to.Goals as goal

pub returns-in-Some : goal.returns-in-Some
unfolding budget_by
returns-in-Some c = rw c.in-Some.is c.run_blocks.ensures

pub returns-in-None : goal.returns-in-None
unfolding budget_by
returns-in-None c = rw c.in-None.is c.run.ensures
