-- Document 02, #102, "Holes after the first": what a cycle keeps for the blocks after it.
use Rattle.std.specs.Prelude.{◌||◌, if◌then◌else◌, is_some}
use Rattle.terms.specs.Common.{Bool, Option, eqb}
use Rattle.std.specs.Bool.{then_some}
use Rattle.lengths.specs.declared.Len.{Len}
use Rattle.codes.specs.{declared.Cycle.Cycle, declared.Motion.Motion, declared.Distance.Distance, Codes.cycle_number}
use Rattle.codes.specs.declared.Motion.TheVariants.{Off, G00, G01, G02, G03, Drilling}
use Rattle.words.specs.declared.Values.{Values}
use Rattle.settings.specs.{declared.Stands.Stands, declared.Under.Under, declared.Kept.Kept, declared.State.State, Settings.none_kept, Settings.or_else}

unfoldable pub same_cycle : Cycle → Cycle → Bool
same_cycle a b = eqb (cycle_number a) (cycle_number b)

-- What a cycle finds, by the code that was on before it, the Z where the tool is, and what was kept. "until .. another cycle code; a
-- repeat of the same code keeps them. The initial level becomes the Z before the cycle was first switched on and holds until it is
-- off".
unfoldable pub kept_before : Cycle → Motion → Len → Kept → Kept
kept_before cycle Off z kept = none_kept z
kept_before cycle G00 z kept = none_kept z
kept_before cycle G01 z kept = none_kept z
kept_before cycle G02 z kept = none_kept z
kept_before cycle G03 z kept = none_kept z
kept_before cycle (Drilling before) z kept = if same_cycle cycle before then kept else none_kept kept.initial

-- "They are to stay, as written numbers with the unit and the G90 or G91 they were written under": a word's value is in units, and a word
-- of the block takes the place of the kept one of its letter alone. "K stays with its own block."
unfoldable pub under_by : Distance → Option Len → Distance → Distance
under_by d g kept = if is_some g then d else kept

unfoldable pub stands_with : Values → Stands → Stands
stands_with v kept =
    record { z = is_some v.z || kept.z; r = is_some v.r || kept.r; dwell = is_some v.p || kept.dwell }

unfoldable pub under_with : Distance → Values → Under → Under
under_with d v kept = record { z = under_by d v.z kept.z; r = under_by d v.r kept.r }

unfoldable pub kept_with : Distance → Values → Kept → Kept
kept_with d v kept =
    record {
      initial = kept.initial;
      z = or_else v.z kept.z;
      r = or_else v.r kept.r;
      dwell = or_else v.p kept.dwell;
      stands = stands_with v kept.stands;
      under = under_with d v kept.under;
    }

-- What is kept after a block, by the motion that is its code. "until G80, a motion code": then nothing is kept, and the initial level,
-- which no one asks for, goes with the tool.
unfoldable pub kept_under : Motion → State → Distance → Values → Kept
kept_under Off s d v = none_kept s.at.z
kept_under G00 s d v = none_kept s.at.z
kept_under G01 s d v = none_kept s.at.z
kept_under G02 s d v = none_kept s.at.z
kept_under G03 s d v = none_kept s.at.z
kept_under (Drilling cycle) s d v = kept_with d v (kept_before cycle s.modes.motion s.at.z s.kept)

-- the words as they are kept
abbrev pub kept_z : Kept → Option Len
kept_z k = then_some k.stands.z k.z

abbrev pub kept_r : Kept → Option Len
kept_r k = then_some k.stands.r k.r

abbrev pub kept_p : Kept → Option Len
kept_p k = then_some k.stands.dwell k.dwell
