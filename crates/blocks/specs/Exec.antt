-- What one block does: the order of its refusals, and its effects in their order.
use Rattle.words.specs.Values.{worth}
use Rattle.std.specs.Prelude.{◌&&◌, ◌||◌, ◌∷◌, ◌++◌, if◌then◌else◌, is_some}
use Rattle.terms.specs.Common.{ℕ, Bool, true, false, not, Option, None, Some, List, [], eqb, ltb, nat_abs}
use Rattle.terms.specs.Terms.{all, first_of, stands, when}
use Rattle.refusals.specs.declared.{Refusal.Refusal, Blame.Blame}
use Rattle.refusals.specs.declared.Refusal.TheVariants.{BadParameter, AddressUndefined, ParameterUndefined, CannotExecute, NumberNotFound, NestOver, LeavesTravel, NoRoom, Unreadable, CentreTooFar}
use Rattle.codes.specs.declared.{Misc.Misc, Motion.Motion, Distance.Distance, Plane.Plane, Plane.TheVariants.G17, Plane.TheVariants.G18, Plane.TheVariants.G19}
use Rattle.codes.specs.Codes.{is_m, ends_program}
use Rattle.codes.specs.declared.Motion.TheVariants.{Off, G00, G01, G02, G03, Drilling}
use Rattle.programs.specs.{declared.Program.Program, Openings.known}
use Rattle.words.specs.{declared.Word.Word, declared.Values.Values, Words.Words, Words.these, Words.bad_at, Words.words_of}
use Rattle.records.specs.{declared.Record.Record, Layout.room_of, Path.end_of, Path.path_stays_in}
use Rattle.records.specs.declared.Record.TheVariants.{SP, SO, PA, EN}
use Rattle.settings.specs.{declared.Modes.Modes, declared.Kept.Kept, declared.State.State, Settings.or_else, CycleWords.kept_under}
use Rattle.letters.specs.declared.BlockCode.{BlockCode}
use Rattle.letters.specs.Letters.{first_that_may_not, has_centre, first_unused, first_bad_value, misc_of_block, modes_in, names_group_a, block_code, values_of}
use Rattle.letters.specs.declared.BlockCode.TheVariants.{Calling, Returning, Dwelling, Moving}
use Rattle.blocks.specs.{Machine.Machine, declared.Said.Said, declared.Control.Control}
use Rattle.blocks.specs.Motions.{Moves, end_stands, centre_given, cycle_done, moves_of}
use Rattle.blocks.specs.declared.Control.TheVariants.{On, Call, Back, Stop}

-- what the words of a block say
unfoldable pub said_by : Machine → Modes → List Word → Said
said_by machine before ws =
    let m = modes_in before ws in
    record {
      modes = m;
      code = block_code m ws;
      misc = misc_of_block ws;
      named = names_group_a ws;
      values = values_of machine.speeds m (block_code m ws) ws;
    }

-- document 02, #102: what is kept of a cycle. G04, M98 and M99 leave it as it is; their P is not the cycle's.
unfoldable pub kept_by : BlockCode → State → Distance → Values → Kept
kept_by Calling s d v = s.kept
kept_by Returning s d v = s.kept
kept_by Dwelling s d v = s.kept
kept_by (Moving motion) s d v = kept_under motion s d v

-- "Effects in order: groups B to F, the F word, S, M03, motion or dwell, M05, M00, M02 or M30."

-- the settings in which the block moves: after groups A to F, the F word, S and M03, and with what its cycle keeps
unfoldable pub working : State → Said → State
working s b =
    record {
      at = s.at;
      modes = b.modes;
      feed = or_else b.values.f s.feed;
      speed = or_else b.values.s s.speed;
      turning = s.turning || is_m 3 b.misc;
      kept = kept_by b.code s b.modes.distance b.values;
    }

-- "S with the spindle turning, or M03, writes one spindle record"
unfoldable pub spindle_records : State → Said → List Record
spindle_records s b =
    if s.turning && is_some b.values.s || is_m 3 b.misc then SP (working s b).speed ∷ [] else []

unfoldable pub moves_in : Machine → State → Said → Moves
moves_in machine s b = moves_of b.code b.named (working s b) (machine.origin b.modes.origin) b.values

-- "M05 always writes `SO`"
unfoldable pub last_records : Misc → List Record
last_records m =
    if is_m 5 m then SO ∷ []
    else (if is_m 0 m then PA ∷ []
    else (if ends_program m then EN ∷ []
    else []))

unfoldable pub made_by : Machine → State → Said → List Record
made_by machine s b = spindle_records s b ++ (moves_in machine s b).records ++ last_records b.misc

-- the settings after the block: the tool is where its records end
unfoldable pub settled : Machine → State → Said → State
settled machine s b =
    record {
      at = end_of s.at (made_by machine s b);
      modes = b.modes;
      feed = (working s b).feed;
      speed = (working s b).speed;
      turning = (working s b).turning && not (is_m 5 b.misc);
      kept = (working s b).kept;
    }

unfoldable pub control_of : Said → Control
control_of b =
    if is_m 98 b.misc then Call (nat_abs (worth b.values.p).v)
    else (if is_m 99 b.misc then Back
    else (if ends_program b.misc then Stop
    else On))

-- "Order: .. 15 leftmost; 4 leftmost ..; 2 leftmost; 1 leftmost by value; 3; 5; 6; 4 for a cycle ..; 1 by geometry; 16;
-- 9; 10." Each names a word's letter, else the block's first byte.
unfoldable pub at_word : Refusal → Option Word → Option Blame
at_word refusal None = None
at_word refusal (Some w) = Some (record { refusal = refusal; byte = w.at })

-- "3: G04 or M98 without P; an arc with an end but no centre word"; "3 needs R missing too"
unfoldable pub lacks_centre : Motion → Values → Bool
lacks_centre Off v = false
lacks_centre G00 v = false
lacks_centre G01 v = false
lacks_centre G02 v = end_stands v && not (centre_given v)
lacks_centre G03 v = end_stands v && not (centre_given v)
lacks_centre (Drilling cycle) v = false

unfoldable pub lacks_parameter : BlockCode → Values → Bool
lacks_parameter Calling v = not (is_some v.p)
lacks_parameter Returning v = false
lacks_parameter Dwelling v = not (is_some v.p)
lacks_parameter (Moving motion) v = lacks_centre motion v

-- "4 for a cycle outside G17 or with the spindle off (K0 too; the block's M03 counts)"
unfoldable pub is_g17 : Plane → Bool
is_g17 G17 = true
is_g17 G18 = false
is_g17 G19 = false

unfoldable pub drills : BlockCode → Bool → Values → Bool
drills Calling named v = false
drills Returning named v = false
drills Dwelling named v = false
drills (Moving Off) named v = false
drills (Moving G00) named v = false
drills (Moving G01) named v = false
drills (Moving G02) named v = false
drills (Moving G03) named v = false
drills (Moving (Drilling cycle)) named v = cycle_done named v

unfoldable pub cannot_drill : State → Said → Bool
cannot_drill s b = drills b.code b.named b.values && (not (is_g17 b.modes.plane) || not (working s b).turning)

-- What the block is in: the levels left for calls, of which the main has four, and the numbers that can be called: "5 where
-- no subprogram has that number".
pub record Calls : Type 0 where
  pub left : ℕ
  pub known : ℕ → Bool

unfoldable pub calls_in : List Program → ℕ → Calls
calls_in programs left = record { left = left; known = λ n. stands (known programs n) }

abbrev pub in_main : Calls → Bool
in_main calls = eqb calls.left 4

unfoldable pub call_to : Control → Option ℕ
call_to On = None
call_to (Call n) = Some n
call_to Back = None
call_to Stop = None

unfoldable pub unknown_call : Calls → Option ℕ → Bool
unknown_call calls None = false
unknown_call calls (Some n) = not (calls.known n)

unfoldable pub too_deep : Calls → Option ℕ → Bool
too_deep calls None = false
too_deep calls (Some n) = eqb calls.left 0

unfoldable pub at_start : ℕ → Refusal → Bool → Option Blame
at_start start refusal test = when test (record { refusal = refusal; byte = start })

unfoldable pub blames : Machine → Calls → ℕ → State → ℕ → List Word → Said → List (Option Blame)
blames machine calls room s start ws b =
    -- "4 leftmost for unknown or repeated letters (not G) and codes that may not stand; 2 leftmost; 1 leftmost by value"
    at_word CannotExecute (first_that_may_not (in_main calls) [] ws)
    ∷ at_word AddressUndefined (first_unused b.code b.modes.plane (has_centre b.code b.modes.plane ws) ws)
    ∷ at_word BadParameter (first_bad_value machine.speeds b.modes b.code ws)
    -- "3; 5; 6"
    ∷ at_start start ParameterUndefined (lacks_parameter b.code b.values)
    ∷ at_start start NumberNotFound (unknown_call calls (call_to (control_of b)))
    ∷ at_start start NestOver (too_deep calls (call_to (control_of b)))
    -- "4 for a cycle outside G17 or with the spindle off (K0 too; the block's M03 counts); 1 by geometry"
    ∷ at_start start CannotExecute (cannot_drill s b)
    ∷ at_start start BadParameter (not (moves_in machine s b).sound)
    -- "16; 9; 10"
    ∷ at_start start CentreTooFar (not (all machine.fits (made_by machine s b)))
    ∷ at_start start LeavesTravel (not (path_stays_in machine.stays s.at (made_by machine s b)))
    ∷ at_start start NoRoom (ltb room (room_of (made_by machine s b))) ∷ []

-- The verdict on a block: refused, which changes nothing and adds nothing, or accepted with its next settings, where the
-- run goes, and its records.
pub data Verdict : Type 0 where
  refused : Blame → Verdict
  accepted : State → Control → List Record → Verdict

unfoldable pub unless : Option Blame → Verdict → Verdict
unless None verdict = verdict
unless (Some blame) verdict = refused blame

unfoldable pub judged : Machine → Calls → ℕ → State → ℕ → List Word → Said → Verdict
judged machine calls room s start ws b =
    unless (first_of (blames machine calls room s start ws b))
    (accepted (settled machine s b) (control_of b) (made_by machine s b))

unfoldable pub exec_words : Machine → Calls → ℕ → State → ℕ → Words → Verdict
exec_words machine calls room s start (bad_at at) = refused (record { refusal = Unreadable; byte = at })
exec_words machine calls room s start (these ws) = judged machine calls room s start ws (said_by machine s.modes ws)

-- A block whose first byte is at `start` and whose words begin at the byte `at` with the bytes of `text`.
unfoldable pub exec : Machine → Calls → ℕ → State → ℕ → ℕ → List ℕ → Verdict
exec machine calls room s start at text = exec_words machine calls room s start (words_of at text)
