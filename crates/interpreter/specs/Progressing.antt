-- What the code of the run answers and leaves in the list, by the rules of the walk.
use Rattle.std.specs.Prelude.{◌+◌, ◌-◌, ◌≤◌, ◌<◌, ◌≡◌, ◌&&◌, ◌||◌, ◌∷◌, if◌then◌else◌}
use Rattle.terms.specs.Common.{ℕ, Bool, true, Some, List, [], length, drop, sets}
use Rattle.terms.specs.Terms.{byte}
use Rattle.refusals.specs.declared.Place.{Place}
use Rattle.lines.specs.{Blocks.Block, Blocks.block_from, Blocks.blocks_of, Blocks.begins_with, Blocks.is_percent, Blocks.is_slashed, Blocks.text_from, Serving.blocks_from}
use Rattle.setup.specs.{declared.Bed.Bed, Fair.Fair}
use Rattle.records.specs.{declared.Record.Record, Layout.room_of, Writing.moved_bytes}
use Rattle.settings.specs.declared.State.{State}
use Rattle.programs.specs.{declared.Program.Program, declared.table.Programs.Programs, Openings.known, Found.subs_of, Places.Begins, Places.Placed}
use Rattle.blocks.specs.{Machine.machine_of, declared.Control.TheVariants.On, declared.Control.TheVariants.Call}
use Rattle.blocks.specs.{Exec.Verdict, Exec.accepted, Exec.exec, Exec.calls_in, Calling.freely, Calling.called, Reach.Reachable}
use Rattle.runs.specs.{Run.finish_of, declared.Progress.Progress}
use Rattle.runs.specs.Walk.{Job, Going, ended, returned, unfinished, refused_at, Outcome, nowhere, going_on, slash_length, obey, walk, callees}
use Rattle.execution.specs.declared.Ground.{Ground}
use Rattle.interpreter.specs.declared.{Task.Task, How.How, Ending.Ending, Turn.Turn, Turn.TheVariants.Calls, Turn.TheVariants.Over, Leg.Leg}
use Rattle.interpreter.specs.declared.How.TheVariants.{Ended, Returned, Unfinished, Refused}
use Rattle.runs.specs.Walk as Walk

-- the job that the code's task is, on the bytes of the data
unfoldable pub job_of : List ℕ → Task → Job
job_of l task =
    record {
      machine = machine_of task.bed;
      skips = task.skips;
      blocks = blocks_of l;
      finish = finish_of l (blocks_of l);
      programs = subs_of task.programs;
    }

-- in a list of so many bytes, the room that is left lies behind the records
unfoldable pub going_of : ℕ → Progress → Going
going_of room p = record { state = p.state; room = room - p.next; budget = p.budget }

-- the walk from a block on, which begins at a place of the data
unfoldable pub walk_from : List ℕ → ℕ → Task → ℕ → ℕ → ℕ → Progress → Outcome
walk_from l room task left n at p =
    walk (job_of l task) left (callees (job_of l task) left) (blocks_from l n at) (going_of room p)

-- the task of a walk on a footing
abbrev pub task_on : Ground → Bool → Programs → Task
task_on footing skips programs = record { bed = footing.bed; programs = programs; skips = skips }

-- the walk from a leg's last block on, which is accepted but for its call of the number and makes no record
unfoldable pub call_from : List ℕ → ℕ → Task → ℕ → ℕ → Leg → Outcome
call_from l room task left number leg =
    obey (called (calls_in (subs_of task.programs) left) leg.place.byte (accepted leg.after.state (Call number) []))
    (block_from leg.place.block leg.place.byte (drop leg.place.byte l)) (callees (job_of l task) left)
    (walk (job_of l task) left (callees (job_of l task) left) (blocks_from l (leg.place.block + 1) leg.byte)) (going_of room leg.before)

-- "Program without its end": there is no block of the program where the data end, at an opening and at `%` alone
unfoldable pub program_ends : List ℕ → Bool
program_ends [] = true
program_ends (b ∷ bs) = begins_with (byte "O") (text_from (b ∷ bs)) || is_percent (text_from (b ∷ bs))

-- the verdict on a block but for its call; a skipped block is accepted with nothing done
unfoldable pub verdict_at : Ground → Bool → Block → ℕ → State → Verdict
verdict_at footing skips b room s =
    if is_slashed b && skips then accepted s On []
    else
    exec (machine_of footing.bed) (freely footing.left) room s b.start (b.start + slash_length b)
    (drop (slash_length b) b.text)

-- how a walk ends, in the words of the rules: a return with what goes on, and a refusal with its place
unfoldable pub how_by : How → Place → Going → Walk.How
how_by Ended place g = ended
how_by Returned place g = returned g
how_by Unfinished place g = unfinished
how_by (Refused refusal) place g = refused_at refusal place

-- a walk tells the place of a block to come where the budget is spent alone
unfoldable pub next_by : How → Place → Place
next_by Ended place = nowhere
next_by Returned place = nowhere
next_by Unfinished place = place
next_by (Refused refusal) place = nowhere

-- what holds of the progress between two blocks, in a list of so many bytes
pub record Fits (bed : Bed) (room : ℕ) (p : Progress) : Type 0 where
  pub state : Reachable bed p.state
  pub next : p.next ≤ room
  pub count : p.count ≤ p.next

-- the outcome of a walk with this ending and these records, in a list of so many bytes
unfoldable pub outcome_by : ℕ → Ending → List Record → Outcome
outcome_by room r made =
    record {
      how = how_by r.how r.place (going_of room r.progress);
      made = made;
      last = r.progress.state;
      next = next_by r.how r.place;
    }

-- how a walk ends, and what it leaves in the list
pub record Ran (bed : Bed) (o : Outcome) (p : Progress) (was is : List ℕ) (r : Ending) : Type 0 where
  pub outcome : o ≡ outcome_by (length was) r o.made
  pub next : r.progress.next ≡ p.next + room_of o.made
  pub count : r.progress.count ≡ p.count + length o.made
  pub bytes : is ≡ sets was p.next (moved_bytes bed.offset o.made)
  pub fits : Fits bed (length was) r.progress

-- what stays as it is while a data set runs
pub record Sound (l : List ℕ) (task : Task) : Type 0 where
  pub fair : Fair task.bed
  pub places : (n : ℕ) (q : Program) → known (subs_of task.programs) n ≡ Some q → Placed l q

-- A walk that comes to a block that calls. What is left gives the same: the walk from that block on, with the list as it is, ends and
-- leaves what the whole walk does.
pub record Reaches (l : List ℕ) (task : Task) (left n at : ℕ) (first : Progress) (was is : List ℕ) (number : ℕ) (leg : Leg) : Type 0 where
  pub begins : Begins l (leg.place.block + 1) leg.byte
  pub later : at < leg.byte
  pub kept : length is ≡ length was
  pub before : Fits task.bed (length is) leg.before
  pub after : Fits task.bed (length is) leg.after
  pub going : going_of (length is) leg.after ≡ going_on (going_of (length is) leg.before) leg.after.state []
  pub next : leg.after.next ≡ leg.before.next
  pub count : leg.after.count ≡ leg.before.count
  pub same :
      (last : List ℕ) (r : Ending) → Ran task.bed (call_from l (length is) task left number leg) leg.before is last r
      → Ran task.bed (walk_from l (length was) task left n at first) first was last r

-- how far a walk comes that follows no call, by what its last block does
abbrev pub Goes : Turn → List ℕ → Task → ℕ → ℕ → ℕ → Progress → List ℕ → List ℕ → Leg → Type 0
Goes (Calls number) l task left n at first was is leg = Reaches l task left n at first was is number leg
Goes (Over how) l task left n at first was is leg =
    Ran task.bed (walk_from l (length was) task left n at first) first was is
    (record { how = how; place = record { block = leg.place.block; byte = leg.byte }; progress = leg.after })
