-- The run of a data set under a setup: "Order: 13, 12, 11; then per opening 1, 8, 7. Then, block by block".
use Rattle.std.specs.Prelude.{◌+◌, ◌∷◌, if◌then◌else◌}
use Rattle.terms.specs.Common.{ℕ, not, List, [], map, ltb, length}
use Rattle.lengths.specs.Units.{len}
use Rattle.refusals.specs.declared.Refusal.TheVariants.{FirstBlock, BadSetup, DataTooLong}
use Rattle.refusals.specs.declared.{Place.Place, Answer.Answer, Answer.TheVariants.Done, Answer.TheVariants.Unfinished, Answer.TheVariants.Refused}
use Rattle.setup.specs.{declared.Setup.Setup, Limits.valid_setup, Frame.offset, Frame.start_of, Frame.bed_of, Frame.switch_on}
use Rattle.records.specs.{declared.Record.Record, Path.record_moved}
use Rattle.settings.specs.{declared.State.State, Settings.first_state, Settings.state_moved}
use Rattle.blocks.specs.Machine.{machine_of}
use Rattle.lines.specs.Blocks.{Block, blocks_of, closes}
use Rattle.programs.specs.Openings.{Table, table, refused_at, programs_from, blocks_at}
use Rattle.runs.specs.declared.{Budget.Budget, Standing.Standing}
use Rattle.runs.specs.Walk.{Job, How, ended, returned, unfinished, Outcome, nowhere, just, walk, callees}
use Rattle.runs.specs.Walk as Walk

unfoldable pub first_of : Setup → State
first_of s = first_state (start_of s) (len s.feed) (len s.speed)

-- "14: the next opening or `%`, else one past the last block, at the data length."
unfoldable pub finish_of : List ℕ → List Block → Place
finish_of bytes bs = record { block = length bs + 1; byte = length bytes }

-- the main program from its first block, all four levels left
unfoldable pub run_table : Setup → List ℕ → List Block → ℕ → Budget → Table → Outcome
run_table s bytes bs room budget (refused_at refusal place) = just (Walk.refused_at refusal place) (first_of s)
run_table s bytes bs room budget (table main subs) =
    let job : Job =
    record {
      machine = machine_of (bed_of s);
      skips = switch_on s;
      blocks = bs;
      finish = finish_of bytes bs;
      programs = subs;
    } in
    walk job 4 (callees job 4) (blocks_at bs main) (record { state = first_of s; room = room; budget = budget })

-- "11: block 1, byte 0."
unfoldable pub run_blocks : Setup → List ℕ → ℕ → Budget → List Block → Outcome
run_blocks s bytes room budget [] = just (Walk.refused_at FirstBlock (record { block = 1; byte = 0 })) (first_of s)
run_blocks s bytes room budget (b ∷ bs) =
    if closes b then run_table s bytes (b ∷ bs) room budget (programs_from b bs)
    else just (Walk.refused_at FirstBlock (record { block = 1; byte = 0 })) (first_of s)

-- "12, 13: block 0, byte 0."
unfoldable pub outcome : Setup → List ℕ → ℕ → Budget → Outcome
outcome s bytes room budget =
    if ltb 65_535 (length bytes) then just (Walk.refused_at DataTooLong nowhere) (first_of s)
    else (if not (valid_setup s) then just (Walk.refused_at BadSetup nowhere) (first_of s)
    else run_blocks s bytes room budget (blocks_of bytes))

-- The records in machine units, and the answer with their count.
unfoldable pub records_of : Setup → List ℕ → ℕ → Budget → List Record
records_of s bytes room budget = map (record_moved (offset s)) (outcome s bytes room budget).made

unfoldable pub answer_by : How → ℕ → Answer
answer_by ended n = Done n
-- a main program does not return: M99 is refused in it
answer_by (returned g) n = Done n
answer_by unfinished n = Unfinished n
answer_by (Walk.refused_at refusal place) n = Refused refusal place n

unfoldable pub answer_of : Setup → List ℕ → ℕ → Budget → Answer
answer_of s bytes room budget =
    answer_by (outcome s bytes room budget).how (length (outcome s bytes room budget).made)

-- Where the run stands: the settings, the point in machine units, and, while it is not finished, the place of the next block. A
-- run that is refused before any block stands where it would have started.
unfoldable pub standing_of : Setup → List ℕ → ℕ → Budget → Standing
standing_of s bytes room budget =
    record { state = state_moved (offset s) (outcome s bytes room budget).last; next = (outcome s bytes room budget).next }
