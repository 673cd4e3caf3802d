-- What a caller gets: the answer of every input; stepping, "each one more adds that block's records and no others; before the end the
-- answer is 'not finished', and past the end or a refusal answer and list stay as they were", and so does where the run stands; and
-- "a refused block adds no record and changes no setting, earlier records stand".
use Rattle.terms.proofs.Common.{ℕ, zero, suc, ◌+◌, ◌-◌, ◌≤◌, ◌≡◌, refl, sym, ◌∙◌, ap, subst, List, map, ⊎_elim, true, arith, zero-add, suc-add, length, length-map}
use Rattle.refusals.{specs.declared.Place.Place, specs.declared.Refusal.Refusal, proofs.Table.one_to_sixteen}
use Rattle.setup.specs.{declared.Setup.Setup, Frame.offset}
use Rattle.records.specs.{declared.Record.Record, Path.record_moved}
use Rattle.runs.specs.declared.Budget.{Budget, TheVariants.Whole, TheVariants.First}
use Rattle.runs.specs.{Run.outcome, Run.records_of, Run.answer_by, Run.answer_of, Run.standing_of, Run.first_of, declared.Standing.Standing}
use Rattle.runs.proofs.Starting.{first_is}
use Rattle.lengths.specs.Units.{len}
use Rattle.runs.specs.Walk.{Going, How, ended, returned, unfinished, Outcome, refused_at, nowhere, just}
use Rattle.settings.specs.Settings.{state_moved}
use Rattle.claims.specs.Blockwise.{Close, not_yet, at_end, at_refusal, Sofar, how_sofar, outcome_sofar, first_blocks, Stand, Turn, refuses, goes, ends, turn_at, after_turn, one_more, place_ahead, next_sofar, job_for, begun, more, refused_at_once}
use Rattle.claims.specs.Answers.{Answered, finished, not_finished, refusal, TurnsAt, OneMore, stays, refusing, going, ending, SameTold, early_numbers, numbered_in, start_settings, RefusedWhere, at_once, at_block}
use Rattle.claims.proofs.Runs.{open_how, gives, suited, first_n, how_first, begun_cases}
use Rattle.claims.proofs.Turns.{Over, open_or_over, turns_ahead, open_turn, one_over, more_last, records_last}

-- a budget with which so many blocks may be executed
abbrev pub Allows : ℕ → Budget → Type 0
Allows n Whole = Unit {0}
Allows n (First k) = n ≤ k

not_open : (c : Close) (r : Refusal) (place : Place) → how_sofar c ≡ refused_at r place → c ≡ at_refusal r place
unfolding how_sofar
not_open not_yet r place e = let z : ◌≡◌ {A = ℕ} 0 1 = cc in absurd (omega arith)
not_open at_end r place e = let z : ◌≡◌ {A = ℕ} 0 1 = cc in absurd (omega arith)
not_open (at_refusal q p) r place e = cc

refused_turn : (x : Sofar) (t : Turn) (r : Refusal) (place : Place) → (after_turn x t).over ≡ at_refusal r place → t ≡ refuses r place
unfolding after_turn
refused_turn x (refuses q p) r place e = cc
refused_turn x (goes d st) r place e = let z : ◌≡◌ {A = ℕ} 0 1 = cc in absurd (omega arith)
refused_turn x (ends d st) r place e = let z : ◌≡◌ {A = ℕ} 0 1 = cc in absurd (omega arith)

module _ (s : Setup) (bytes : List ℕ) (room : ℕ) where
  abbrev x : ℕ → Sofar
  x = first_blocks s bytes room

  -- the run after one block more
  pub one_later : (n : ℕ) → first_blocks s bytes room (suc n) ≡ one_more (job_for s bytes) (first_blocks s bytes room n)
  unfolding first_blocks
  one_later n = more_last (job_for s bytes) n (begun s bytes room)

  turned : (n : ℕ) (t : Turn) → (x n).over ≡ not_yet → turn_at (job_for s bytes) (x n).stand ≡ t → x (suc n) ≡ after_turn (x n) t
  turned n t e k = one_later n ∙ open_turn (job_for s bytes) (x n) e ∙ ap (after_turn (x n)) k

  pub still_open : (n : ℕ) → (outcome s bytes room (First n)).how ≡ unfinished → (first_blocks s bytes room n).over ≡ not_yet
  still_open n e = open_how (x n).over (sym (how_first s bytes room n) ∙ e)

  not_finished_lem : (n : ℕ) → (x n).over ≡ not_yet → (outcome s bytes room (First n)).how ≡ unfinished
  unfolding how_sofar
  not_finished_lem n e = how_first s bytes room n ∙ ap how_sofar e

  stays_there : (n : ℕ) → Over (x n) → outcome s bytes room (First (suc n)) ≡ outcome s bytes room (First n)
  stays_there n o =
      first_n s bytes room (suc n)
      ∙ ap (outcome_sofar (job_for s bytes)) (one_later n ∙ one_over (job_for s bytes) (x n) o)
      ∙ sym (first_n s bytes room n)

  -- a run that is not finished stands with the settings that its blocks left, before the first block that lies ahead
  pub stands_before :
      (n : ℕ) → (outcome s bytes room (First n)).how ≡ unfinished
      → standing_of s bytes room (First n)
      ≡ record {
        state = state_moved (offset s) (first_blocks s bytes room n).stand.state;
        next = place_ahead (first_blocks s bytes room n).stand.ahead (job_for s bytes).finish;
      }
  unfolding standing_of outcome_sofar next_sofar
  stands_before n e =
      let x : Sofar = first_blocks s bytes room n in
      let ahead : Place = place_ahead x.stand.ahead (job_for s bytes).finish in
      ap (λ (o : Outcome). record { state = state_moved (offset s) o.last; next = o.next }) (first_n s bytes room n)
      ∙ ap (λ (o : Close). record { state = state_moved (offset s) x.stand.state; next = next_sofar o ahead }) (still_open n e)

  -- and that block is the one which is refused or executed next
  pub next_told :
      (n : ℕ) → (outcome s bytes room (First n)).how ≡ unfinished
      → TurnsAt (standing_of s bytes room (First n)).next (turn_at (job_for s bytes) (first_blocks s bytes room n).stand)
  next_told n e =
      let st : Stand = (first_blocks s bytes room n).stand in
      subst (λ (x : Standing). TurnsAt x.next (turn_at (job_for s bytes) st)) (sym (stands_before n e))
      (turns_ahead (job_for s bytes) st)

  -- "Each one more adds that block's records and no others"
  by_turn : (n : ℕ) (t : Turn) → (x n).over ≡ not_yet → turn_at (job_for s bytes) (x n).stand ≡ t → OneMore s bytes room n
  unfolding after_turn outcome_sofar how_sofar next_sofar
  by_turn n t e k = go t k (first_n s bytes room (suc n) ∙ ap (outcome_sofar (job_for s bytes)) (turned n t e k))
    where
      go :
          (t : Turn) → turn_at (job_for s bytes) (x n).stand ≡ t
          → outcome s bytes room (First (suc n)) ≡ outcome_sofar (job_for s bytes) (after_turn (x n) t) → OneMore s bytes room n
      go (refuses r place) k now = refusing r place k (not_finished_lem n e) (rw (first_n s bytes room n) now)
      go (goes d st) k now = going d st k (not_finished_lem n e) (rw (first_n s bytes room n, ← records_last (x n).executed d) now)
      go (ends d st) k now = ending d st k (not_finished_lem n e) (rw (first_n s bytes room n, ← records_last (x n).executed d) now)

  pub one_more_lem : (n : ℕ) → OneMore s bytes room n
  one_more_lem n =
      ⊎_elim (λ e. by_turn n (turn_at (job_for s bytes) (x n).stand) e refl)
      (λ over. stays (λ k. over (still_open n k)) (stays_there n over)) (open_or_over (x n))

  -- "past the end or a refusal answer and list stay as they were"
  pub past_the_end :
      (n k : ℕ) → ((outcome s bytes room (First n)).how ≡ unfinished → ⊥)
      → outcome s bytes room (First (k + n)) ≡ outcome s bytes room (First n)
  past_the_end n zero h = ap (λ (m : ℕ). outcome s bytes room (First m)) (zero-add n)
  past_the_end n (suc k) h =
      let same = past_the_end n k h in
      ap (λ (m : ℕ). outcome s bytes room (First m)) (suc-add k n)
      ∙ stays_there (k + n) (λ e. h (ap (λ (o : Outcome). o.how) (sym same) ∙ not_finished_lem (k + n) e))
      ∙ same

  -- the whole is what every sufficient n gives
  pub whole_is_enough :
      (n : ℕ) → ((outcome s bytes room (First n)).how ≡ unfinished → ⊥) → outcome s bytes room Whole ≡ outcome s bytes room (First n)
  whole_is_enough n h = gives s bytes room n Whole (λ e. h (not_finished_lem n e)) ∙ sym (first_n s bytes room n)

  -- and so does every budget that is not less
  pub allowed :
      (n : ℕ) (budget : Budget) → Allows n budget → ((outcome s bytes room (First n)).how ≡ unfinished → ⊥)
      → outcome s bytes room budget ≡ outcome s bytes room (First n)
  allowed n Whole a h = whole_is_enough n h
  allowed n (First k) a h =
      let parts : k ≡ (k - n) + n = omega arith in
      ap (λ (m : ℕ). outcome s bytes room (First m)) parts ∙ past_the_end n (k - n) h

  -- so the answer, the list and where the run stands are the same
  pub same_told :
      (n : ℕ) (budget : Budget) → Allows n budget → ((outcome s bytes room (First n)).how ≡ unfinished → ⊥)
      → SameTold s bytes room budget (First n)
  unfolding answer_of records_of standing_of
  same_told n budget a h =
      let e = allowed n budget a h in
      record {
        answer = ap (λ (o : Outcome). answer_by o.how (length o.made)) e;
        records = ap (λ (o : Outcome). map (record_moved (offset s)) o.made) e;
        standing = ap (λ (o : Outcome). record { state = state_moved (offset s) o.last; next = o.next }) e;
      }

  -- and there is such an n
  pub some_are_enough : (n : ℕ) × ((outcome s bytes room (First n)).how ≡ unfinished → ⊥)
  some_are_enough =
      let n = suited s bytes room Whole in
      (n.0, λ e. n.1 (still_open n.0 e))

-- ---- the answer

-- the whole is never "not finished"
pub never_unfinished : (s : Setup) (bytes : List ℕ) (room : ℕ) → (outcome s bytes room Whole).how ≡ unfinished → ⊥
never_unfinished s bytes room e =
    let n = some_are_enough s bytes room in
    n.1 (ap (λ (o : Outcome). o.how) (sym (whole_is_enough s bytes room n.0 n.1)) ∙ e)

no_return : (c : Close) (g : Going) → how_sofar c ≡ returned g → ⊥
unfolding how_sofar
no_return not_yet g e = let z : ◌≡◌ {A = ℕ} 0 1 = cc in omega arith
no_return at_end g e = let z : ◌≡◌ {A = ℕ} 0 1 = cc in omega arith
no_return (at_refusal r place) g e = let z : ◌≡◌ {A = ℕ} 0 1 = cc in omega arith

-- the main never ends as a return: "M99 in the main .. refusal 4"
pub main_never_returns :
    (s : Setup) (bytes : List ℕ) (room : ℕ) (budget : Budget) (g : Going) → (outcome s bytes room budget).how ≡ returned g → ⊥
unfolding outcome_sofar
main_never_returns s bytes room budget g e =
    let n = suited s bytes room budget in
    no_return (first_blocks s bytes room n.0).over g
    (ap (λ (o : Outcome). o.how) (sym (gives s bytes room n.0 budget n.1)) ∙ e)

answered_by :
    (budget : Budget) (rs : List Record) (how : How) (k : ℕ) → (budget ≡ Whole → how ≡ unfinished → ⊥) → length rs ≡ k
    → Answered budget rs (answer_by how k)
unfolding answer_by
answered_by budget rs ended k open' e = rw (← e) finished
answered_by budget rs (returned g) k open' e = rw (← e) finished
answered_by Whole rs unfinished k open' e = absurd (open' refl refl)
answered_by (First n) rs unfinished k open' e = rw (← e) (not_finished n refl)
answered_by budget rs (refused_at r place) k open' e =
    rw (← e) (refusal r place (one_to_sixteen r).0 (one_to_sixteen r).1)

-- "Each program, setup and list buffer gets a finished list or one of sixteen numbered refusals with its place"
pub every_input_answered :
    (s : Setup) (bytes : List ℕ) (room : ℕ) (budget : Budget)
    → Answered budget (records_of s bytes room budget) (answer_of s bytes room budget)
unfolding answer_of records_of
every_input_answered s bytes room budget =
    let o = outcome s bytes room budget in
    answered_by budget (map (record_moved (offset s)) o.made) o.how (length o.made)
    (λ is e. never_unfinished s bytes room (rw is at e)) (length-map o.made (record_moved (offset s)))

-- ---- a refused run

module _ (s : Setup) (bytes : List ℕ) (room : ℕ) (r : Refusal) (place : Place) where
  -- a run that was refused before its first block
  at_once_lem :
      (begun s bytes room).over ≡ at_refusal r place → (budget : Budget)
      → (numbered_in early_numbers r ≡ true) × (outcome s bytes room budget ≡ just (refused_at r place) (first_of s))
  unfolding refused_at_once
  at_once_lem e budget =
      begun_cases s bytes room budget
      (λ x o. x.over ≡ at_refusal r place → (numbered_in early_numbers r ≡ true) × (o ≡ just (refused_at r place) (first_of s)))
      (λ q at early k.
      let same : q ≡ r = cc in
      let there : at ≡ place = cc in
      (rw same at early, rw (same, there)))
      (λ blocks v k. let z : ◌≡◌ {A = ℕ} 0 1 = cc in absurd (omega arith)) e

  stands_at_start :
      (begun s bytes room).over ≡ at_refusal r place
      → (budget : Budget) → standing_of s bytes room budget ≡ record { state = start_settings s; next = nowhere }
  unfolding standing_of first_of
  stands_at_start e budget = rw ((at_once_lem e budget).1, first_is s (len s.feed) (len s.speed))

  abbrev Where : Outcome → Type 0
  Where o = RefusedWhere s bytes room r place o.made o.last

  pub turn_refused :
      (n : ℕ) → (first_blocks s bytes room n).over ≡ not_yet → (outcome s bytes room (First (suc n))).how ≡ refused_at r place
      → turn_at (job_for s bytes) (first_blocks s bytes room n).stand ≡ refuses r place
  turn_refused n e how =
      let t : Turn = turn_at (job_for s bytes) (first_blocks s bytes room n).stand in
      let over = not_open (first_blocks s bytes room (suc n)).over r place (sym (how_first s bytes room (suc n)) ∙ how) in
      refused_turn (first_blocks s bytes room n) t r place (ap (λ (z : Sofar). z.over) (sym (turned s bytes room n t e refl)) ∙ over)

  -- at the block that is refused the records and the settings are those of the run that stops before it
  at_last :
      (n : ℕ) → (first_blocks s bytes room n).over ≡ not_yet → (outcome s bytes room (First (suc n))).how ≡ refused_at r place
      → Where (outcome s bytes room (First (suc n)))
  unfolding after_turn standing_of outcome_sofar how_sofar next_sofar
  at_last n e how =
      let o : Outcome = outcome s bytes room (First n) in
      let open' : o.how ≡ unfinished = not_finished_lem s bytes room n e in
      let later = turned s bytes room n (refuses r place) e (turn_refused n e how) in
      let now : outcome s bytes room (First (suc n)) ≡ record { how = refused_at r place; made = o.made; last = o.last; next = nowhere } =
      rw (first_n s bytes room n) (first_n s bytes room (suc n) ∙ ap (outcome_sofar (job_for s bytes)) later) in
      subst (λ (o : Outcome). Where o) (sym now)
      (at_block
      (record {
        before = n;
        next = o.next;
        stops = λ i. record { how = open' i; made = o.made; last = o.last; next = o.next };
        refused = now;
        settings = ap (λ (o : Outcome). state_moved (offset s) o.last) now;
        stand = ap (λ (z : Sofar). z.stand) later;
      }))

  with_first : (n : ℕ) → (outcome s bytes room (First n)).how ≡ refused_at r place → Where (outcome s bytes room (First n))
  unfolding first_blocks more
  with_first zero e =
      let over = not_open (begun s bytes room).over r place (sym (how_first s bytes room 0) ∙ e) in
      let now = at_once_lem over (First 0) in
      at_once now.0 (λ budget. (at_once_lem over budget).1) (stands_at_start over) (ap (λ (o : Outcome). o.made) now.1)
      (ap (λ (o : Outcome). o.last) now.1)
  with_first (suc n) e =
      ⊎_elim (λ under. at_last n under e)
      (λ over.
      let same = stays_there s bytes room n over in
      rw same (with_first n (ap (λ (o : Outcome). o.how) (sym same) ∙ e)))
      (open_or_over (first_blocks s bytes room n))

  pub refused_adds_nothing :
      (budget : Budget) → (outcome s bytes room budget).how ≡ refused_at r place
      → RefusedWhere s bytes room r place (outcome s bytes room budget).made (outcome s bytes room budget).last
  refused_adds_nothing budget e =
      let n = suited s bytes room budget in
      let same = gives s bytes room n.0 budget n.1 ∙ sym (first_n s bytes room n.0) in
      rw same (with_first n.0 (ap (λ (o : Outcome). o.how) (sym same) ∙ e))
