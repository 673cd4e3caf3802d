-- The records of a list.
use Rattle.std.specs.Prelude.{◌-◌}
use Rattle.terms.specs.Common.{ℕ, List, length}
use Rattle.records.specs.{declared.Record.Record, declared.Listed.Listed, Reading.read_all}

-- the records of a list from a place on, and what the reader says after them: no list has more records than bytes
unfoldable pub records_from : List ℕ → ℕ → List Record
records_from l at = (read_all (length l - at) l at).records

unfoldable pub end_from : List ℕ → ℕ → Listed
end_from l at = (read_all (length l - at) l at).last
