-- Demand 2: "The list read back, record by record from its first byte, gives the run's events and then the end of what was
-- written." The records of every run can be written and read back, they fit the list, and the answer has their count.
use Rattle.terms.proofs.Common.{ℕ, ◌+◌, ◌≤◌, ◌≡◌, refl, ◌∙◌, ap, List, [], ◌++◌, map, arith, length, drop, length-map}
use Rattle.refusals.specs.Answers.{count_of}
use Rattle.setup.{specs.declared.Setup.Setup, specs.Frame.offset, specs.Frame.bed_of, proofs.Valid.fair}
use Rattle.records.specs.{declared.Record.Record, Layout.list_bytes, Layout.room_of, Path.record_moved, Reading.after, Reading.read_all, Writing.ListShort}
use Rattle.records.proofs.{Laid.list_length, Back.round_trip, Back.whole_list, Moved.moved_room, Moved.room_append, Moved.short_both}
use Rattle.settings.specs.declared.State.{State}
use Rattle.blocks.specs.Reach.{Reachable}
use Rattle.runs.specs.{Walk.How, Walk.ended, Walk.returned, Walk.unfinished, Run.first_of, Run.outcome, Run.records_of, Run.answer_by, Run.answer_of, declared.Budget.Budget}
use Rattle.claims.proofs.Turns.{run_holds}
use Rattle.claims.specs.Blockwise.{not_yet, more, records_by, outcome_sofar, job_for, stand_at, refused_at_once, first_blocks}
use Rattle.claims.proofs.Runs.{begun_cases, once_over, gives, suited, block_keeps}
use Rattle.promises.specs.ReadBack.{ReadsBack}
use Rattle.runs.specs.Walk as Walk
use Rattle.runs.proofs.Starting.{first_reached}

-- ---- the records of a run: their numbers fit four bytes, and they fit the room

record Fine (s : Setup) (room : ℕ) (rs : List Record) : Type 0 where
  short : ListShort (map (record_moved (offset s)) rs)
  fits : room_of rs ≤ room

-- what every block keeps, with the room that is left
record Kept (s : Setup) (room : ℕ) (rs : List Record) (q : State) (left : ℕ) : Type 0 where
  state : Reachable (bed_of s) q
  short : ListShort (map (record_moved (offset s)) rs)
  fits : room_of rs + left ≤ room

-- under a setup with its six origins; a run that is refused before its first block has made none
fine_outcome :
    (s : Setup) → length s.origins ≡ 6 → (bytes : List ℕ) (room : ℕ) (budget : Budget) → Fine s room (outcome s bytes room budget).made
unfolding outcome_sofar first_blocks refused_at_once stand_at records_by room_of bed_of job_for
fine_outcome s six bytes room budget =
    let n = suited s bytes room budget in
    rw (gives s bytes room n.0 budget n.1)
    (begun_cases s bytes room budget (λ x o. Fine s room (records_by (more (job_for s bytes) n.0 x).executed))
    (λ r place early. rw (once_over s bytes room n.0 r place) (record { short = tt; fits = omega arith }))
    (λ blocks v.
    let k =
    run_holds (Kept s room) (job_for s bytes)
    (λ rs st b q control made e h.
    let k = block_keeps (bed_of s) (fair s v six) (job_for s bytes) st b q control made e h.state in
    record {
      state = k.state;
      short = short_both (offset s) rs made h.short k.short;
      fits = omega (arith, room_append rs made, k.fits, h.fits);
    })
    n.0 (record { executed = []; stand = stand_at (first_of s) room blocks; over = not_yet })
    (record { state = first_reached s v; short = tt; fits = omega arith }) in
    record { short = k.short; fits = omega (arith, k.fits) }))

-- ---- read back

count_by : (how : How) (n : ℕ) → count_of (answer_by how n) ≡ n
unfolding answer_by
count_by ended n = refl
count_by (returned g) n = refl
count_by unfinished n = refl
count_by (Walk.refused_at refusal place) n = refl

reads_back : (rs : List Record) (how : How) (room : ℕ) → ListShort rs → room_of rs ≤ room → ReadsBack rs (answer_by how (length rs)) room
reads_back rs how room short fits =
    let end : 0 + room_of rs ≡ length (list_bytes rs) = omega (arith, list_length rs) in
    record {
      list = λ n. whole_list rs n short;
      count = count_by how (length rs);
      fits = omega (arith, list_length rs);
      buffer = λ was n.
          let l = list_bytes rs ++ drop (length (list_bytes rs)) was in
          round_trip [] (drop (length (list_bytes rs)) was) rs n short ∙ ap (λ (k : ℕ). after rs (read_all n l k)) end;
    }

-- The list of every run under a setup with its six origins, valid or not, read back.
pub read_back :
    (s : Setup) → length s.origins ≡ 6 → (bytes : List ℕ) (room : ℕ) (budget : Budget)
    → ReadsBack (records_of s bytes room budget) (answer_of s bytes room budget) room
unfolding records_of answer_of
read_back s six bytes room budget =
    let o = outcome s bytes room budget in
    let fine = fine_outcome s six bytes room budget in
    let moving = record_moved (offset s) in
    rw (← length-map o.made moving)
    (reads_back (map moving o.made) o.how room fine.short (omega (arith, moved_room (offset s) o.made, fine.fits)))

-- The numbers of these records are ones that four bytes hold.
pub records_short :
    (s : Setup) → length s.origins ≡ 6 → (bytes : List ℕ) (room : ℕ) (budget : Budget)
    → ListShort (records_of s bytes room budget)
unfolding records_of
records_short s six bytes room budget = (fine_outcome s six bytes room budget).short
