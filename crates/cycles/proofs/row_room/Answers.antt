-- `cycles::row_room` meets its contract, kind by kind.
use Rattle.cycles.proofs.row_room.Goals as goal

pub returns-in-Rapid : goal.returns-in-Rapid
returns-in-Rapid c = rw c.in-Rapid.is c.kind_length.ensures

pub returns-in-Cut : goal.returns-in-Cut
returns-in-Cut c = rw c.in-Cut.is c.kind_length-in-Cut.ensures

pub returns-in-Dwell : goal.returns-in-Dwell
returns-in-Dwell c = rw c.in-Dwell.is c.kind_length-in-Dwell.ensures
