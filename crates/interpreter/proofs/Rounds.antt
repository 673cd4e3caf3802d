-- The loop over a program's blocks. What is left gives the same: the walk from here, with the list as it is, ends and leaves what the
-- whole walk leaves of the list at entry. Assumes nothing.
use Rattle.std.specs.Prelude.{Result, Ok, Err}
use Rattle.terms.proofs.Common.{ℕ, ◌+◌, ◌-◌, ◌≤◌, ◌<◌, ◌≡◌, refl, sym, ◌∙◌, ap, true, false, List, [], arith, length, replicate, drop, sets, length-sets}
use Rattle.terms.specs.Terms.{first_of}
use Rattle.refusals.specs.declared.{Blame.Blame, Refusal.TheVariants.NoEnd, Place.Place}
use Rattle.lines.{specs.Blocks.Block, specs.Blocks.block_from, specs.Blocks.length_from, specs.Serving.blocks_from, proofs.Lines.length_some}
use Rattle.setup.specs.Fair.{Fair}
use Rattle.records.specs.{declared.Record.Record, Layout.room_of, Layout.list_bytes, Writing.moved_bytes}
use Rattle.settings.specs.declared.State.{State}
use Rattle.programs.{specs.declared.Program.Program, specs.declared.table.Programs.Programs, specs.Found.subs_of, specs.Places.Begins, proofs.Places.begins_next}
use Rattle.blocks.specs.{declared.Control.Control, declared.Done.Done, Calling.called, Doing.made_of, Doing.Does}
use Rattle.blocks.specs.declared.Control.TheVariants.{On, Call, Back, Stop}
use Rattle.blocks.specs.Exec.{Verdict, accepted, calls_in, call_to, unknown_call, too_deep, at_start, unless}
use Rattle.runs.specs.{declared.Progress.Progress, Serving.progress_by}
use Rattle.runs.specs.Walk.{Going, Outcome, going_on, is_spent, after, follow, obey, walk, callees}
use Rattle.interpreter.specs.declared.{Task.Task, Ending.Ending, Turn.TheVariants.Calls}
use Rattle.interpreter.specs.Progressing.{job_of, going_of, walk_from, call_from, program_ends, how_by, next_by, outcome_by, Ran, Fits, Reaches}
use Rattle.interpreter.specs.declared.How.TheVariants.{Ended, Returned, Unfinished, Refused}
use Rattle.interpreter.proofs.Endings.{count_room, ran_still, ran_after}
use Rattle.interpreter.proofs.Walking.{free_verdict, goes_inside, walk_spent, walk_ends, walk_goes}
use Rattle.interpreter.proofs.Acting.{Accepts, accepted_is, refused_is, verdict_kept, verdict_quiet}
use Rattle.blocks.specs.Exec as Exec

pub record Walking (l : List ℕ) (task : Task) (left : ℕ) (whole : Outcome) (p₀ : Progress) (was list : List ℕ) (n at : ℕ) (p : Progress) : Type 0 where
  pub begins : Begins l n at
  pub fits : Fits task.bed (length list) p
  pub kept : length list ≡ length was
  pub same :
      (last : List ℕ) (r : Ending) → Ran task.bed (walk_from l (length list) task left n at p) p list last r
      → Ran task.bed whole p₀ was last r

-- any table of programs, where what is shown is the same for each
pub no_programs : Programs
no_programs =
    let none : Program = record { number = 0; block = 0; byte = 0 } in
    record { main = none; count = 0; subs = replicate 10 none; places = refl; used = omega arith }

-- the verdict on the block at a place but for its call
abbrev verdict_on : List ℕ → Task → ℕ → List ℕ → ℕ → ℕ → Progress → Verdict
verdict_on l task left list n at p = free_verdict task left (block_from n at (drop at l)) (length list - p.next) p.state

-- going on after a block, as the rules and as the code count the room
going_on_lem :
    (room : ℕ) (p : Progress) (done : Done) (made : List Record) → done.next ≡ p.next + room_of made
    → going_on (going_of room p) done.state made ≡ going_of room (progress_by p done)
unfolding going_on going_of progress_by
going_on_lem room p done made e =
    let f : room - p.next - room_of made ≡ room - done.next = omega arith in
    rw f

-- the walk of an accepted block that calls no subprogram
obeyed :
    (calls : Exec.Calls) (b : Block) (callee : ℕ → Going → Outcome) (rest : Going → Outcome) (g : Going) {v : Verdict} {s : State}
    {control : Control} {made : List Record}
    → v ≡ accepted s control made → called calls b.start (accepted s control made) ≡ accepted s control made
    → obey (called calls b.start v) b callee rest g ≡ after made (follow control callee rest (going_on g s made))
unfolding obey
obeyed calls b callee rest g e f = rw (e, f)

module _ (l : List ℕ) (task : Task) (left : ℕ) where
  pub walking_starts :
      (n at : ℕ) (p : Progress) (was : List ℕ) → Begins l n at → Fits task.bed (length was) p
      → Walking l task left (walk_from l (length was) task left n at p) p was was n at p
  walking_starts n at p was b f = record { begins = b; fits = f; kept = refl; same = λ last r h. h }

  module _ {whole : Outcome} {p₀ : Progress} {was list : List ℕ} {n at : ℕ} {p : Progress} (w : Walking l task left whole p₀ was list n at p) where
    abbrev here : Place
    here = record { block = n; byte = at }

    pub walking_spent : is_spent p.budget ≡ true → Ran task.bed whole p₀ was list (record { how = Unfinished; place = here; progress = p })
    unfolding walk_from going_of outcome_by how_by next_by
    walking_spent e =
        w.same list (record { how = Unfinished; place = here; progress = p })
        (rw (walk_spent l task left (callees (job_of l task) left) (going_of (length list) p) n at w.begins e)
        (ran_still task.bed (record { how = Unfinished; place = here; progress = p }) w.fits))

    pub walking_ends :
        is_spent p.budget ≡ false → program_ends (drop at l) ≡ true
        → Ran task.bed whole p₀ was list (record { how = Refused NoEnd; place = here; progress = p })
    unfolding walk_from going_of outcome_by how_by next_by
    walking_ends e f =
        w.same list (record { how = Refused NoEnd; place = here; progress = p })
        (rw (walk_ends l task left (callees (job_of l task) left) (going_of (length list) p) n at w.begins e f)
        (ran_still task.bed (record { how = Refused NoEnd; place = here; progress = p }) w.fits))

-- the block at the place, which is executed or skipped, and the code's answer
pub record Meets (l : List ℕ) (task : Task) (left : ℕ) (whole : Outcome) (p₀ : Progress) (was list : List ℕ) (n at : ℕ) (p : Progress)
    (is : List ℕ) (a : Result Done Blame) : Type 0 where
  pub walking : Walking l task left whole p₀ was list n at p
  pub fair : Fair task.bed
  pub budget : is_spent p.budget ≡ false
  pub stays : program_ends (drop at l) ≡ false
  pub did : Does task.bed.offset (verdict_on l task left list n at p) list p.next (at + length_from (drop at l)) is a

pub meets :
    {l : List ℕ} {task : Task} {left : ℕ} {whole : Outcome} {p₀ : Progress} {was list : List ℕ} {n at : ℕ} {p : Progress} {is : List ℕ} {a : Result Done Blame}
    → Walking l task left whole p₀ was list n at p → Fair task.bed → is_spent p.budget ≡ false → program_ends (drop at l) ≡ false
    → Does task.bed.offset (verdict_on l task left list n at p) list p.next (at + length_from (drop at l)) is a
    → Meets l task left whole p₀ was list n at p is a
meets walking fair budget stays did = record { walking = walking; fair = fair; budget = budget; stays = stays; did = did }

module _ {l : List ℕ} {task : Task} {left : ℕ} {whole : Outcome} {p₀ : Progress} {was list : List ℕ} {n at : ℕ} {p : Progress} {is : List ℕ}
    {a : Result Done Blame} (m : Meets l task left whole p₀ was list n at p is a) where
  abbrev v : Verdict
  v = verdict_on l task left list n at p

  abbrev calls : Exec.Calls
  calls = calls_in (subs_of task.programs) left

  abbrev rest : Going → Outcome
  rest = walk (job_of l task) left (callees (job_of l task) left) (blocks_from l (n + 1) (at + length_from (drop at l)))

  inside : at < length l
  inside = goes_inside l at m.stays

  -- what the block's walk leaves, the whole walk leaves
  on :
      {last : List ℕ} {r : Ending}
      → Ran task.bed (obey (called calls at v) (block_from n at (drop at l)) (callees (job_of l task) left) rest (going_of (length list) p)) p
      list last r
      → Ran task.bed whole p₀ was last r
  unfolding walk_from going_of
  on {last} {r} h = m.walking.same last r (rw (walk_goes l task left (callees (job_of l task) left) (going_of (length list) p) n at m.walking.begins m.budget m.stays) h)

  list_length : length is ≡ length list
  list_length = ap length m.did.bytes ∙ length-sets list p.next (moved_bytes task.bed.offset (made_of v))

  pub did_kept : length is ≡ length was
  did_kept = list_length ∙ m.walking.kept

  pub did_refused :
      {blame : Blame} → a ≡ Err blame
      → Ran task.bed whole p₀ was is (record { how = Refused blame.refusal; place = record { block = n; byte = blame.byte }; progress = p })
  unfolding obey called made_of list_bytes going_of outcome_by how_by next_by
  did_refused {blame} g =
      let e = refused_is p.next (at + length_from (drop at l)) v (sym g ∙ m.did.answer) in
      let same : is ≡ list = m.did.bytes ∙ ap (λ (v : Verdict). sets list p.next (moved_bytes task.bed.offset (made_of v))) e in
      rw same
      (on (rw e (ran_still task.bed (record { how = Refused blame.refusal; place = record { block = n; byte = blame.byte }; progress = p }) m.walking.fits)))

  module _ {done : Done} (g : a ≡ Ok done) where
    abbrev made : List Record
    made = made_of v

    accepts : Accepts p.next (at + length_from (drop at l)) v done
    accepts = accepted_is p.next (at + length_from (drop at l)) v done (sym g ∙ m.did.answer)

    pub did_fits : Fits task.bed (length is) (progress_by p done)
    unfolding progress_by
    did_fits =
        let k = verdict_kept (record { bed = task.bed; left = left }) task.skips (block_from n at (drop at l)) (length list - p.next) p.state m.fair m.walking.fits.state accepts.verdict in
        record {
          state = k.0;
          next = omega (arith, k.1, m.walking.fits.next, accepts.next, list_length);
          count = omega (arith, m.walking.fits.count, accepts.next, accepts.count, count_room made);
        }

    pub did_less : at < done.after
    did_less = omega (arith, accepts.place, length_some l at inside)

    -- the walk after a block that calls no subprogram
    then :
        {control : Control} {last : List ℕ} {r : Ending} → done.control ≡ control
        → called calls at (accepted done.state control made) ≡ accepted done.state control made
        → Ran task.bed (follow control (callees (job_of l task) left) rest (going_of (length is) (progress_by p done))) (progress_by p done) is last r
        → Ran task.bed whole p₀ was last r
    unfolding progress_by
    then {control} k free h =
        let e = accepts in
        let count : p.count + done.count ≡ p.count + length made = omega (arith, e.count) in
        let going : going_on (going_of (length list) p) done.state made ≡ going_of (length is) (progress_by p done) =
        going_on_lem (length list) p done made e.next ∙ ap (λ (room : ℕ). going_of room (progress_by p done)) (sym list_length)
        in
        let walked = obeyed calls (block_from n at (drop at l)) (callees (job_of l task) left) rest (going_of (length list) p) (e.verdict ∙ ap (λ (control : Control). accepted done.state control made) k) free in
        on (rw (walked, going) (ran_after task.bed made m.did.bytes e.next count h))

    pub did_back : (place : Place) → done.control ≡ Back → Ran task.bed whole p₀ was is (record { how = Returned; place = place; progress = progress_by p done })
    unfolding follow outcome_by how_by next_by going_of called unless first_of at_start call_to unknown_call too_deep
    did_back place k = then k refl (ran_still task.bed (record { how = Returned; place = place; progress = progress_by p done }) did_fits)

    pub did_stop : (place : Place) → done.control ≡ Stop → Ran task.bed whole p₀ was is (record { how = Ended; place = place; progress = progress_by p done })
    unfolding follow outcome_by how_by next_by going_of called unless first_of at_start call_to unknown_call too_deep
    did_stop place k = then k refl (ran_still task.bed (record { how = Ended; place = place; progress = progress_by p done }) did_fits)

    pub did_on : done.control ≡ On → Walking l task left whole p₀ was is (n + 1) done.after (progress_by p done)
    unfolding walk_from follow progress_by called unless first_of at_start call_to unknown_call too_deep
    did_on k =
        let place = accepts.place in
        record {
          begins = rw place (begins_next m.walking.begins inside);
          fits = did_fits;
          kept = did_kept;
          same = λ last r h. then k refl (rw place at h);
        }

    pub did_call :
        {number : ℕ} (n₀ at₀ : ℕ) → done.control ≡ Call number → whole ≡ walk_from l (length was) task left n₀ at₀ p₀ → at₀ ≤ at
        → Reaches l task left n₀ at₀ p₀ was is number (record { turn = Calls number; place = record { block = n; byte = at }; byte = done.after; before = p; after = progress_by p done })
    unfolding call_from progress_by list_bytes room_of
    did_call {number} n₀ at₀ k u h =
        let a = accepts in
        let same = list_length in
        let place = a.place in
        let calls-it = a.verdict ∙ ap (λ (control : Control). accepted done.state control made) k in
        let none = verdict_quiet (record { bed = task.bed; left = left }) task.skips (block_from n at (drop at l)) (length list - p.next) p.state calls-it in
        let e : v ≡ accepted done.state (Call number) [] = calls-it ∙ ap (accepted done.state (Call number)) none in
        let list-is : is ≡ list = m.did.bytes ∙ ap (λ (made : List Record). sets list p.next (moved_bytes task.bed.offset made)) none in
        let next = a.next ∙ ap (λ (made : List Record). p.next + room_of made) none in
        let count = a.count ∙ ap length none in
        record {
          begins = rw place (begins_next m.walking.begins inside);
          later = omega (arith, did_less);
          kept = did_kept;
          before = rw same m.walking.fits;
          after = did_fits;
          going = sym (going_on_lem (length is) p done [] next);
          next = omega (arith, next);
          count = omega (arith, count);
          same = λ last r ran. rw (← u) (on (rw e (rw (list-is, place) at ran)));
        }
