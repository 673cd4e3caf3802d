-- `cycles::row_end` meets its contract, kind by kind.
use Rattle.terms.proofs.Common.{rules}
use Rattle.records.specs.Path.{path_of, path_end}
use Rattle.cycles.proofs.row_end.Goals as goal

pub enum_known-row : goal.enum_known-row
unfolding path_of path_end
enum_known-row c = search rules

pub enum_known-row-in-Cut-1 : goal.enum_known-row-in-Cut-1
unfolding path_of path_end
enum_known-row-in-Cut-1 c = search rules

pub enum_told-1 : goal.enum_told-1
unfolding path_of path_end
enum_told-1 c = search rules

pub returns-in-Rapid : goal.returns-in-Rapid
unfolding path_of path_end
returns-in-Rapid c = rw c.in-Rapid.is

pub returns-in-Cut : goal.returns-in-Cut
unfolding path_of path_end
returns-in-Cut c = rw c.in-Cut.is

pub returns-in-Dwell : goal.returns-in-Dwell
unfolding path_of path_end
returns-in-Dwell c = rw c.in-Dwell.is
