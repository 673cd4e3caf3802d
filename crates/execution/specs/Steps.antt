-- The steps of the code through the order of refusals, each stated over what is left of one list of them.
use Rattle.std.specs.Prelude.{◌≡◌, ◌&&◌, ◌++◌, Result, Ok, Err}
use Rattle.terms.specs.Common.{ℕ, Bool, true, false, not, Option, None, Some, List, drop, take}
use Rattle.terms.specs.Terms.{first_of}
use Rattle.refusals.specs.declared.Refusal.{Refusal, TheVariants.BadParameter, TheVariants.LeavesTravel}
use Rattle.codes.specs.{declared.Misc.Misc, Codes.is_m}
use Rattle.words.specs.declared.Word.{Word}
use Rattle.lengths.specs.declared.Point.{Point}
use Rattle.setup.specs.{declared.Bed.Bed, Frame.origin_at}
use Rattle.records.specs.declared.Record.{Record}
use Rattle.settings.specs.declared.{State.State, Modes.Modes}
use Rattle.letters.specs.Judging.{valued}
use Rattle.reading.specs.{declared.Reading.Reading, Seen.Sums}
use Rattle.work.specs.{declared.Extent.Extent, Work.work_records, Work.aim_of, Work.brief_records, Needs.Makes}
use Rattle.blocks.specs.{declared.Said.Said, Machine.Machine, Motions.moves_of, Reach.Steady}
use Rattle.blocks.specs.Exec.{working, settled, spindle_records, last_records, control_of, made_by, Calls, blames, Verdict, accepted, unless}
use Rattle.execution.specs.declared.Planned.{Planned}

-- the verdict by the refusals from a place of their order on
unfoldable pub judged_from : ℕ → Machine → Calls → ℕ → State → ℕ → List Word → Said → Verdict
judged_from k machine calls room s start ws b =
    unless (first_of (drop k (blames machine calls room s start ws b)))
    (accepted (settled machine s b) (control_of b) (made_by machine s b))

-- what was read of the words of a block, `held` being those that the lent arrays hold
pub record Says (m : Modes) (ws held : List Word) (read : Reading) : Type 0 where
  pub seen : Sums m ws read.seen
  pub words : take read.count held ≡ valued ws

-- the settings that a block works with, its tool at a point and its spindle as the M code leaves it
unfoldable pub settled_at : State → Misc → Point → State
settled_at w misc end =
    record {
      at = end;
      modes = w.modes;
      feed = w.feed;
      speed = w.speed;
      turning = w.turning && not (is_m 5 misc);
      kept = w.kept;
    }

-- the records of a planned block: the spindle's, the motion's and the last
unfoldable pub planned_records : Planned → List Record
planned_records p = brief_records p.first ++ work_records p.work p.aim p.works.at ++ brief_records p.last

-- what is known of a block once its motion is planned
pub record Plans (bed : Bed) (s : State) (b : Said) (p : Planned) : Type 0 where
  pub steady : Steady bed s b
  pub control : p.control ≡ control_of b
  pub works : p.works ≡ working s b
  pub aim : p.aim ≡ aim_of (working s b) (origin_at bed b.modes.origin) b.values
  pub first : brief_records p.first ≡ spindle_records s b
  pub last : brief_records p.last ≡ last_records b.misc
  pub work : Makes (moves_of b.code b.named (working s b) (origin_at bed b.modes.origin) b.values) (working s b) (origin_at bed b.modes.origin) b.values p.work

-- a plan of some block in some state
pub record Able (bed : Bed) (p : Planned) : Type 0 where
  pub s : State
  pub b : Said
  pub plans : Plans bed s b p

-- "1 by geometry; 16; 9", where no centre is too far: what the test of a planned block comes to
abbrev pub none_yet : Point → Extent
none_yet from = record { end = from; room = 0; count = 0 }

unfoldable pub checked_by : Bool → Option Extent → Result Extent Refusal
checked_by false way = Err BadParameter
checked_by true None = Err LeavesTravel
checked_by true (Some e) = Ok e
