-- Demand 3, "Moving the work moves the cut and nothing else": the two setups, and what the second one answers where the displaced
-- path leaves the travel.
use Rattle.std.specs.Prelude.{◌≡◌, ◌∷◌, ◌++◌, ◌+ℤ◌}
use Rattle.terms.specs.Common.{ℕ, suc, Bool, true, false, List, [], map, length}
use Rattle.refusals.specs.Answers.{refused_with, report_of}
use Rattle.setup.specs.{declared.Axes.Axes, declared.Setup.Setup, Frame.point_of}
use Rattle.records.specs.{declared.Record.Record, Path.path_stays_in, Path.record_moved}
use Rattle.settings.specs.Settings.{state_moved}
use Rattle.programs.specs.Openings.{place_of}
use Rattle.runs.specs.{declared.Budget.Budget, declared.Budget.TheVariants.First, declared.Standing.Standing, Walk.nowhere, Run.records_of, Run.answer_of, Run.standing_of}
use Rattle.claims.specs.{Blockwise.BlockDone, Blockwise.first_blocks, Travel.in_travel}

abbrev pub axes_moved : Axes → Axes → Axes
axes_moved by a = record { x = a.x +ℤ by.x; y = a.y +ℤ by.y; z = a.z +ℤ by.z }

-- "two valid setups that differ only in that the common offset and the start point are displaced by the same distances":
-- the second of them
abbrev pub displaced : Axes → Setup → Setup
displaced by s =
    record {
      low = s.low;
      high = s.high;
      start = axes_moved by s.start;
      exofs = axes_moved by s.exofs;
      origins = s.origins;
      feed = s.feed;
      lowest = s.lowest;
      highest = s.highest;
      speed = s.speed;
      skip = s.skip;
    }

-- "the same records, all points and arc centres displaced and every other number equal"
abbrev pub all_moved : Axes → List Record → List Record
all_moved by rs = map (record_moved (point_of by)) rs

-- where a run stands, its point displaced and all else equal
abbrev pub standing_moved : Axes → Standing → Standing
standing_moved by x = record { state = state_moved (point_of by) x.state; next = x.next }

-- records in machine units, their path beginning at the setup's start, stay in the setup's travel
unfoldable pub stay_in : Setup → List Record → Bool
stay_in s rs = path_stays_in (in_travel s) (point_of s.start) rs

-- "the second refuses for travel at the first executed block whose displaced path leaves it, with the earlier records
-- displaced": `before` blocks are executed before it
pub record LeavesFirst (by : Axes) (s : Setup) (bytes : List ℕ) (room : ℕ) (budget : Budget) : Type 0 where
  pub before : ℕ
  pub block : BlockDone
  pub executed :
      (first_blocks s bytes room (suc before)).executed ≡ (first_blocks s bytes room before).executed ++ block ∷ []
  pub stays : stay_in (displaced by s) (all_moved by (records_of s bytes room (First before))) ≡ true
  pub leaves : stay_in (displaced by s) (all_moved by (records_of s bytes room (First (suc before)))) ≡ false
  -- "9: Path leaves the travel", with the block's number and its first byte
  pub answer :
      report_of (answer_of (displaced by s) bytes room budget)
      ≡ refused_with 9 (place_of block.block) (length (records_of s bytes room (First before)))
  pub records : records_of (displaced by s) bytes room budget ≡ all_moved by (records_of s bytes room (First before))
  -- and the settings are those before the block, their point displaced
  pub standing :
      standing_of (displaced by s) bytes room budget
      ≡ record { state = state_moved (point_of by) (standing_of s bytes room (First before)).state; next = nowhere }
