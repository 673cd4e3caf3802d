-- The bounds that a run keeps where a cycle is done, and what the functions under them answer.
use Rattle.std.specs.Prelude.{◌+◌, ◌≤◌, ◌≡◌, ◌∷◌}
use Rattle.terms.specs.Common.{ℕ, Option, List, length, drop}
use Rattle.lengths.specs.{declared.Len.Len, View.Within, declared.Point.Point}
use Rattle.codes.specs.declared.{Cycle.Cycle, Return.Return}
use Rattle.records.specs.declared.Record.{Record, TheVariants.RP, TheVariants.LN, TheVariants.DW}
use Rattle.settings.specs.{declared.State.State, Bounds.KeptNear}
use Rattle.cycles.specs.declared.{Hole.Hole, Row.Row, Row.TheVariants.Rapid, Row.TheVariants.Cut, Row.TheVariants.Dwell}
use Rattle.cycles.specs.Cycles.{leaving, pass_to, pass_count}

-- what the levels of a hole lead from
pub record Holes (origin : Point) (s : State) : Type 0 where
  pub height : Within 1_000_000_000 origin.z.v
  pub kept : KeptNear s.kept

-- a number of passes
pub record Counts (k : Option Len) (n : ℕ) : Type 0 where
  pub is : n ≡ pass_count k
  pub few : n ≤ 9_999

-- the records of the way back up, and those of one pass, at any level and wherever it is
pub record UpLength (cycle : Cycle) (back : Return) (n : ℕ) : Type 0 where
  pub is : (h : Hole) (p : Point) → h.back ≡ back → n ≡ length (leaving cycle h p)
  pub most : n ≤ 2

pub record PassLength (h : Hole) (n : ℕ) : Type 0 where
  pub is : (level : Len) (p : Point) → n ≡ length (pass_to h level p)
  pub most : n ≤ 6

-- the record at a place of a list, by what the list is from there on
abbrev pub Stands : List Record → ℕ → Record → Type 0
Stands rs i r = drop i rs ≡ r ∷ drop (i + 1) rs

-- a row as the record that it is
abbrev pub row_record : Row → Record
row_record (Rapid p) = RP p
row_record (Cut p feed) = LN p feed
row_record (Dwell ms) = DW ms
