-- A run seen block by block: where it stands after the first n executed blocks, which blocks those were and what each added.
-- The rules of the run (specs/Walk.antt of `runs`) go by programs and calls; proofs/Runs.antt shows that both give
-- the same for every n.
use Rattle.std.specs.Prelude.{◌-◌, ◌||◌, ◌∷◌, ◌++◌, if◌then◌else◌}
use Rattle.terms.specs.Common.{ℕ, zero, suc, Bool, true, false, not, List, [], ltb, length}
use Rattle.refusals.specs.declared.{Refusal.Refusal, Refusal.TheVariants.NoEnd, Refusal.TheVariants.FirstBlock, Refusal.TheVariants.BadSetup, Refusal.TheVariants.DataTooLong, Place.Place}
use Rattle.setup.specs.{declared.Setup.Setup, Limits.valid_setup, Frame.bed_of, Frame.switch_on}
use Rattle.records.specs.{declared.Record.Record, Layout.room_of}
use Rattle.settings.specs.declared.State.{State}
use Rattle.blocks.specs.{Machine.machine_of, Exec.Verdict, Exec.refused, Exec.accepted, declared.Control.Control}
use Rattle.blocks.specs.declared.Control.TheVariants.{On, Call, Back, Stop}
use Rattle.lines.specs.Blocks.{Block, blocks_of, closes, opens}
use Rattle.programs.specs.{Openings.Table, Openings.table, Openings.place_of, Openings.known, Openings.programs_from, Openings.blocks_at, declared.Program.Program}
use Rattle.runs.specs.{declared.Budget.TheVariants.Whole, Run.first_of, Run.finish_of}
use Rattle.runs.specs.Walk.{Job, How, ended, unfinished, refused_at, Outcome, nowhere, is_skipped, verdict_on, blocks_for}
use Rattle.programs.specs.Openings as Openings

-- a block that was executed, and its records
pub record BlockDone : Type 0 where
  pub block : Block
  pub made : List Record

-- Where a run stands: the settings and the room left in the list, and the blocks that lie ahead in the program that runs and,
-- behind its return, in those that called it.
pub record Stand : Type 0 where
  pub state : State
  pub room : ℕ
  pub ahead : List Block
  pub callers : List (List Block)

-- "Main may call a first level, down to a fourth.": the levels left for calls
abbrev pub levels : List (List Block) → ℕ
levels callers = 4 - length callers

-- What the block that is reached next does: it is refused, a missing end too; or it is executed, and the run goes on or is
-- at its end.
pub data Turn : Type 0 where
  refuses : Refusal → Place → Turn
  goes : BlockDone → Stand → Turn
  ends : BlockDone → Stand → Turn

-- the stand past a block that leaves a state and adds records
unfoldable pub past : Stand → List Block → State → List Record → Stand
past st rest s made = record { state = s; room = st.room - room_of made; ahead = rest; callers = st.callers }

-- "M98 P: calls", one level down
unfoldable pub in_callee : Stand → List Block → Stand
in_callee st blocks =
    record { state = st.state; room = st.room; ahead = blocks; callers = st.ahead ∷ st.callers }

-- "M99: returns", to the block after the call; the main does not return, since M99 is refused in it
unfoldable pub returning : List (List Block) → Stand → BlockDone → Turn
returning [] st d = ends d st
returning (rest ∷ callers) st d =
    goes d (record { state = st.state; room = st.room; ahead = rest; callers = callers })

unfoldable pub led : Control → Job → Stand → BlockDone → Turn
led On job st d = goes d st
led (Call n) job st d = goes d (in_callee st (blocks_for job.blocks (known job.programs n)))
led Back job st d = returning st.callers st d
led Stop job st d = ends d st

unfoldable pub turn_by : Verdict → Job → Stand → Block → List Block → Turn
turn_by (refused blame) job st b rest = refuses blame.refusal (record { block = b.number; byte = blame.byte })
turn_by (accepted s control made) job st b rest =
    led control job (past st rest s made) (record { block = b; made = made })

unfoldable pub verdict_in : Job → Stand → Block → Verdict
verdict_in job st b =
    verdict_on job (levels st.callers) b (record { state = st.state; room = st.room; budget = Whole })

-- a skipped block counts as executed and adds nothing
unfoldable pub turn_under : Bool → Job → Stand → Block → List Block → Turn
turn_under true job st b rest = goes (record { block = b; made = [] }) (past st rest st.state [])
turn_under false job st b rest = turn_by (verdict_in job st b) job st b rest

unfoldable pub turn_unless : Bool → Job → Stand → Block → List Block → Turn
turn_unless true job st b rest = refuses NoEnd (place_of b)
turn_unless false job st b rest = turn_under (is_skipped job b) job st b rest

unfoldable pub turn_in : List Block → Job → Stand → Turn
turn_in [] job st = refuses NoEnd job.finish
turn_in (b ∷ rest) job st = turn_unless (opens b || closes b) job st b rest

unfoldable pub turn_at : Job → Stand → Turn
turn_at job st = turn_in st.ahead job st

-- how a run is over, if it is
pub data Close : Type 0 where
  not_yet : Close
  at_end : Close
  at_refusal : Refusal → Place → Close

-- A run so far: the blocks executed in their order, where it stands, and how it is over.
pub record Sofar : Type 0 where
  pub executed : List BlockDone
  pub stand : Stand
  pub over : Close

-- a refused block is not executed, adds nothing and leaves the stand, settings and room among it, as it was
unfoldable pub after_turn : Sofar → Turn → Sofar
after_turn x (refuses refusal place) =
    record { executed = x.executed; stand = x.stand; over = at_refusal refusal place }
after_turn x (goes d st) = record { executed = x.executed ++ d ∷ []; stand = st; over = not_yet }
after_turn x (ends d st) = record { executed = x.executed ++ d ∷ []; stand = st; over = at_end }

unfoldable pub turned_unless : Close → Job → Sofar → Sofar
turned_unless not_yet job x = after_turn x (turn_at job x.stand)
turned_unless at_end job x = x
turned_unless (at_refusal refusal place) job x = x

-- one executed block more; "past the end or a refusal answer and list stay as they were"
unfoldable pub one_more : Job → Sofar → Sofar
one_more job x = turned_unless x.over job x

unfoldable pub more : Job → ℕ → Sofar → Sofar
more job zero x = x
more job (suc n) x = more job n (one_more job x)

unfoldable pub records_by : List BlockDone → List Record
records_by [] = []
records_by (d ∷ ds) = d.made ++ records_by ds

-- "before the end the answer is 'not finished'"
unfoldable pub how_sofar : Close → How
how_sofar not_yet = unfinished
how_sofar at_end = ended
how_sofar (at_refusal refusal place) = refused_at refusal place

-- where the block stands that is reached next: the first of those that lie ahead, else a missing end
unfoldable pub place_ahead : List Block → Place → Place
place_ahead [] finish = finish
place_ahead (b ∷ rest) finish = place_of b

-- a run that is over has no next block
unfoldable pub next_sofar : Close → Place → Place
next_sofar not_yet ahead = ahead
next_sofar at_end ahead = nowhere
next_sofar (at_refusal refusal place) ahead = nowhere

unfoldable pub outcome_sofar : Job → Sofar → Outcome
outcome_sofar job x =
    record {
      how = how_sofar x.over;
      made = records_by x.executed;
      last = x.stand.state;
      next = next_sofar x.over (place_ahead x.stand.ahead job.finish);
    }

-- ---- a data set under a setup

-- the openings, behind a first block that is `%` alone
unfoldable pub table_in : List Block → Table
table_in [] = Openings.refused_at FirstBlock (record { block = 1; byte = 0 })
table_in (b ∷ bs) = if closes b then programs_from b bs else Openings.refused_at FirstBlock (record { block = 1; byte = 0 })

unfoldable pub subs_of : Table → List Program
subs_of (table main subs) = subs
subs_of (Openings.refused_at refusal place) = []

unfoldable pub job_for : Setup → List ℕ → Job
job_for s bytes =
    record {
      machine = machine_of (bed_of s);
      skips = switch_on s;
      blocks = blocks_of bytes;
      finish = finish_of bytes (blocks_of bytes);
      programs = subs_of (table_in (blocks_of bytes));
    }

-- the stand before the first block, "all four levels left"
unfoldable pub stand_at : State → ℕ → List Block → Stand
stand_at first room blocks = record { state = first; room = room; ahead = blocks; callers = [] }

unfoldable pub refused_at_once : State → ℕ → Refusal → Place → Sofar
refused_at_once first room refusal place =
    record { executed = []; stand = stand_at first room []; over = at_refusal refusal place }

unfoldable pub begun_by : Table → State → List Block → ℕ → Sofar
begun_by (Openings.refused_at refusal place) first bs room = refused_at_once first room refusal place
begun_by (table main subs) first bs room =
    record { executed = []; stand = stand_at first room (blocks_at bs main); over = not_yet }

-- "Refusals 11 to 13 and of openings come at n = 0 too."
unfoldable pub begun : Setup → List ℕ → ℕ → Sofar
begun s bytes room =
    if ltb 65_535 (length bytes) then refused_at_once (first_of s) room DataTooLong nowhere
    else (if not (valid_setup s) then refused_at_once (first_of s) room BadSetup nowhere
    else begun_by (table_in (blocks_of bytes)) (first_of s) (blocks_of bytes) room)

-- the first n executed blocks of a data set under a setup
unfoldable pub first_blocks : Setup → List ℕ → ℕ → ℕ → Sofar
first_blocks s bytes room n = more (job_for s bytes) n (begun s bytes room)
