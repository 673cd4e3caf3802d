-- What an accepted block keeps: the state after it is one that a run can reach again, its records stay in the travel, fit the list
-- and their four bytes, and the tool is where they end.
use Rattle.std.specs.Prelude.{◌≤◌, ◌≡◌}
use Rattle.terms.specs.Common.{ℕ, true, List, map}
use Rattle.records.specs.{declared.Record.Record, Layout.room_of, Path.end_of, Path.path_stays_in, Path.record_moved, Writing.ListShort}
use Rattle.setup.specs.declared.Bed.{Bed}
use Rattle.settings.specs.declared.State.{State}
use Rattle.blocks.specs.{Machine.machine_of, Reach.Reachable}

pub record Keeps (bed : Bed) (room : ℕ) (before after : State) (made : List Record) : Type 0 where
  pub state : Reachable bed after
  -- in machine units
  pub short : ListShort (map (record_moved bed.offset) made)
  pub stays : path_stays_in (machine_of bed).stays before.at made ≡ true
  pub ends : after.at ≡ end_of before.at made
  pub fits : room_of made ≤ room
