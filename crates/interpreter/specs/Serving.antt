-- What only serves the proofs of the entry points: what their inner functions are handed and answer.
use Rattle.std.specs.Prelude.{◌+◌, ◌≤◌, ◌<◌, ◌≡◌}
use Rattle.terms.specs.Common.{ℕ, List, length, sets}
use Rattle.lines.specs.{Blocks.block_from, Blocks.length_from, Serving.blocks_from}
use Rattle.lengths.specs.declared.Point.{Point}
use Rattle.records.specs.{Layout.room_of, Writing.moved_bytes}
use Rattle.programs.specs.{declared.table.Programs.Programs, Openings.table, Openings.programs_from, Found.subs_of}
use Rattle.runs.specs.{Walk.Outcome, Serving.report_by, declared.Report.Report}

-- "Order: .. 11; then per opening 1, 8, 7.": the data begin with `%` alone, and these are their programs
pub record Opened (l : List ℕ) (t : Programs) : Type 0 where
  pub some : 0 < length l
  pub table : programs_from (block_from 1 0 l) (blocks_from l 2 (0 + length_from l)) ≡ table t.main (subs_of t)

-- the report by an outcome, and its records from the first byte of the list on
pub record Gives (offset : Point) (o : Outcome) (was is : List ℕ) (r : Report) : Type 0 where
  pub report : r ≡ report_by offset o
  pub bytes : is ≡ sets was 0 (moved_bytes offset o.made)
  pub room : room_of o.made ≤ length was
