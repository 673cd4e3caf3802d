-- What writing asks and leaves.
use Rattle.std.specs.Prelude.{◌+◌, ◌≤◌, ◌∷◌}
use Rattle.terms.specs.Common.{ℕ, List, [], map, length}
use Rattle.lengths.specs.{View.Short, declared.Len.Len, declared.Point.Point, Near.Near}
use Rattle.records.specs.{declared.Record.Record, Layout.numbers_of, Layout.list_bytes, Layout.room_of, Path.record_moved}

-- "numbers are four bytes, little end first, signed": each of these is one that four bytes hold
abbrev pub AllShort : List Len → Type 0
AllShort [] = Unit {0}
AllShort (n ∷ ns) = Short n.v × AllShort ns

abbrev pub ListShort : List Record → Type 0
ListShort [] = Unit {0}
ListShort (r ∷ rs) = AllShort (numbers_of r) × ListShort rs

-- the bytes of records in machine units: "points and centres are machine units"
abbrev pub moved_bytes : Point → List Record → List ℕ
moved_bytes by rs = list_bytes (map (record_moved by) rs)

-- a record that can be written in machine units: each number fits four bytes there
pub record Displaceable (by : Point) (r : Record) : Type 0 where
  pub offset : Near 1_000_000_000 by
  pub short : AllShort (numbers_of (record_moved by r))

-- records that can be written at a place: there is room, and each number fits four bytes in machine units
pub record RoomFor (list : List ℕ) (at : ℕ) (by : Point) (rs : List Record) : Type 0 where
  pub room : at + room_of rs ≤ length list
  pub offset : Near 1_000_000_000 by
  pub short : ListShort (map (record_moved by) rs)
