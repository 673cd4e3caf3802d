-- `list_files::is_written` meets its contract.
use Rattle.list_files.specs.Lists.{is_written}
use Rattle.list_files.proofs.is_written.Goals as goal

pub returns-in-Done : goal.returns-in-Done
unfolding is_written
returns-in-Done c = rw c.in-Done.is

pub returns-in-Unfinished : goal.returns-in-Unfinished
unfolding is_written
returns-in-Unfinished c = rw c.in-Unfinished.is

pub returns-in-Refused : goal.returns-in-Refused
unfolding is_written
returns-in-Refused c = rw c.in-Refused.is
