-- `list_files::report_in` meets its contract: each entry point runs one kind of budget.
use Rattle.list_files.specs.Lists.{blocks_as}
use Rattle.list_files.proofs.report_in.Goals as goal

pub returns-in-None : goal.returns-in-None
unfolding blocks_as
returns-in-None c = rw c.in-None.is c.run.ensures

pub returns-in-Some : goal.returns-in-Some
unfolding blocks_as
returns-in-Some c = rw c.in-Some.is c.run_blocks.ensures
