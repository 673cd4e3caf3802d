-- What the next block can do, case by case; what every block keeps, a run keeps.
use Rattle.terms.proofs.Common.{ℕ, zero, suc, ◌-◌, ◌≡◌, refl, sym, ◌∙◌, ap, Bool, true, false, ◌||◌, ◌⊎◌, inl, inr, List, [], ◌∷◌, ◌++◌, append_assoc, append-nil, arith}
use Rattle.refusals.specs.declared.{Refusal.TheVariants.NoEnd, Place.Place}
use Rattle.refusals.specs.declared.Blame.{Blame}
use Rattle.records.specs.{declared.Record.Record, Layout.room_of}
use Rattle.settings.specs.declared.State.{State}
use Rattle.blocks.specs.{Machine.Machine, Exec.Verdict, Exec.refused, Exec.accepted, declared.Control.Control}
use Rattle.blocks.specs.declared.Control.TheVariants.{On, Call, Back, Stop}
use Rattle.lines.specs.Blocks.{Block, closes, opens}
use Rattle.programs.specs.Openings.{place_of}
use Rattle.runs.specs.Walk.{Job, is_skipped}
use Rattle.claims.specs.Answers.{TurnsAt}
use Rattle.claims.specs.Blockwise.{BlockDone, Stand, Turn, refuses, goes, ends, past, in_callee, returning, led, turn_by, verdict_in, turn_under, turn_unless, turn_in, turn_at, Close, not_yet, at_end, at_refusal, Sofar, after_turn, turned_unless, one_more, more, records_by, place_ahead}

abbrev pub done_with : Block → List Record → BlockDone
done_with b made = record { block = b; made = made }

-- a job on another machine
abbrev pub with_machine : Machine → Job → Job
with_machine m job =
    record { machine = m; skips = job.skips; blocks = job.blocks; finish = job.finish; programs = job.programs }

-- the kinds of turn: a missing end, a refused block, a skipped block, an accepted block; and for the last two the turn on
-- any machine
module _ (P : Turn → Type 0) (job : Job) (st : Stand)
    (at-end : (place : Place) → place ≡ place_ahead st.ahead job.finish → P (refuses NoEnd place))
    (at-refusal :
    (b : Block) (bs : List Block) (blame : Blame) → st.ahead ≡ b ∷ bs → verdict_in job st b ≡ refused blame
    → P (refuses blame.refusal (record { block = b.number; byte = blame.byte })))
    (at-skip :
    (b : Block) (bs : List Block) → st.ahead ≡ b ∷ bs
    → ((m : Machine) → turn_at (with_machine m job) st ≡ goes (done_with b []) (past st bs st.state []))
    → P (goes (done_with b []) (past st bs st.state [])))
    (at_block :
    (b : Block) (bs : List Block) (s : State) (control : Control) (made : List Record)
    → st.ahead ≡ b ∷ bs → verdict_in job st b ≡ accepted s control made
    → ((m : Machine) → turn_at (with_machine m job) st ≡ turn_by (verdict_in (with_machine m job) st b) (with_machine m job) st b bs)
    → P (led control job (past st bs s made) (done_with b made)))
  where
    module _ (b : Block) (bs : List Block) (ahead : st.ahead ≡ b ∷ bs) where
      by_verdict :
          (v : Verdict) → verdict_in job st b ≡ v
          → ((m : Machine) → turn_at (with_machine m job) st ≡ turn_by (verdict_in (with_machine m job) st b) (with_machine m job) st b bs)
          → P (turn_by v job st b bs)
      unfolding turn_by
      by_verdict (refused blame) e k = at-refusal b bs blame ahead e
      by_verdict (accepted s control made) e k = at_block b bs s control made ahead e k

      by_skip :
          (skips : Bool) → ((m : Machine) → turn_at (with_machine m job) st ≡ turn_under skips (with_machine m job) st b bs)
          → P (turn_under skips job st b bs)
      unfolding turn_under
      by_skip true k = at-skip b bs ahead k
      by_skip false k = by_verdict (verdict_in job st b) refl k

      by_closing :
          (closed : Bool) → ((m : Machine) → turn_at (with_machine m job) st ≡ turn_unless closed (with_machine m job) st b bs)
          → P (turn_unless closed job st b bs)
      unfolding turn_unless is_skipped place_ahead
      by_closing true k = at-end (place_of b) (rw ahead)
      by_closing false k = by_skip (is_skipped job b) k

    by_ahead :
        (ahead : List Block) → st.ahead ≡ ahead → ((m : Machine) → turn_at (with_machine m job) st ≡ turn_in ahead (with_machine m job) st)
        → P (turn_in ahead job st)
    unfolding turn_in place_ahead
    by_ahead [] e k = at-end job.finish (rw e)
    by_ahead (b ∷ bs) e k = by_closing b bs e (opens b || closes b) k

    pub turn_cases : P (turn_at job st)
    unfolding turn_at
    turn_cases = by_ahead st.ahead refl (λ m. refl)

-- an executed block is one, and leaves its settings and room, wherever it leads
module _ (P : Turn → Type 0) (job : Job) (st : Stand) (d : BlockDone)
    (at_goes :
    (ahead : List Block) (callers : List (List Block))
    → P (goes d (record { state = st.state; room = st.room; ahead = ahead; callers = callers })))
    (at-ends : P (ends d st))
  where
    pub led_cases : (control : Control) → P (led control job st d)
    unfolding led in_callee returning
    led_cases On = at_goes st.ahead st.callers
    led_cases (Call n) = at_goes _ (st.ahead ∷ st.callers)
    led_cases Back = back st.callers
      where
        back : (callers : List (List Block)) → P (returning callers st d)
        back [] = at-ends
        back (rest ∷ callers) = at_goes rest callers
    led_cases Stop = at-ends

-- the block that is refused or executed next is the first that lies ahead
pub turns_ahead : (job : Job) (st : Stand) → TurnsAt (place_ahead st.ahead job.finish) (turn_at job st)
unfolding TurnsAt place_ahead
turns_ahead job st =
    turn_cases (TurnsAt (place_ahead st.ahead job.finish)) job st (λ place e. rw e) (λ b bs blame e k. rw e) (λ b bs e k. rw e)
    (λ b bs s control made e k l. rw e (led_cases (TurnsAt (place_of b)) job _ (done_with b made) (λ ahead callers. refl) refl control))

-- ---- the run so far

abbrev pub Over : Sofar → Type 0
Over x = x.over ≡ not_yet → ⊥

pub open_or_over : (x : Sofar) → (x.over ≡ not_yet) ⊎ Over x
open_or_over x = go x.over
  where
    go : (c : Close) → (c ≡ not_yet) ⊎ (c ≡ not_yet → ⊥)
    go not_yet = inl refl
    go at_end = inr (λ e. let z : ◌≡◌ {A = ℕ} 0 1 = cc in omega arith)
    go (at_refusal r place) = inr (λ e. let z : ◌≡◌ {A = ℕ} 0 1 = cc in omega arith)

module _ (job : Job) where
  -- a run that is not over goes by the turn of its next block
  pub open_turn : (x : Sofar) → x.over ≡ not_yet → one_more job x ≡ after_turn x (turn_at job x.stand)
  unfolding one_more turned_unless
  open_turn x e = ap (λ (o : Close). turned_unless o job x) e

  pub one_over : (x : Sofar) → Over x → one_more job x ≡ x
  unfolding one_more turned_unless
  one_over x h = go x.over h
    where
      go : (c : Close) → (c ≡ not_yet → ⊥) → turned_unless c job x ≡ x
      go not_yet k = absurd (k refl)
      go at_end k = refl
      go (at_refusal r place) k = refl

  -- "past the end or a refusal answer and list stay as they were"
  pub more_over : (n : ℕ) (x : Sofar) → Over x → more job n x ≡ x
  unfolding more
  more_over zero x h = refl
  more_over (suc n) x h = ap (more job n) (one_over x h) ∙ more_over n x h

  -- one executed block more, at the end instead of the beginning
  pub more_last : (n : ℕ) (x : Sofar) → more job (suc n) x ≡ one_more job (more job n x)
  unfolding more
  more_last zero x = refl
  more_last (suc n) x = more_last n (one_more job x)

pub records_last : (ds : List BlockDone) (d : BlockDone) → records_by (ds ++ d ∷ []) ≡ records_by ds ++ d.made
unfolding records_by
records_last [] d = append-nil d.made
records_last (e ∷ ds) d = ap (e.made ++◌) (records_last ds d) ∙ sym (append_assoc e.made (records_by ds) d.made)

-- ---- what every block keeps, a run keeps: a fact Q of the records so far, the settings and the room left

module _ (Q : List Record → State → ℕ → Type 0) (job : Job)
    (block :
    (rs : List Record) (st : Stand) (b : Block) (s : State) (control : Control) (made : List Record)
    → verdict_in job st b ≡ accepted s control made → Q rs st.state st.room → Q (rs ++ made) s (st.room - room_of made))
  where
    abbrev Holds : Sofar → Type 0
    Holds x = Q (records_by x.executed) x.stand.state x.stand.room

    turn_holds : (x : Sofar) → Holds x → Holds (after_turn x (turn_at job x.stand))
    unfolding after_turn past room_of
    turn_holds x h =
        turn_cases (λ t. Holds (after_turn x t)) job x.stand (λ place e. h) (λ b bs blame e k. h)
        (λ b bs e k.
        let room : x.stand.room - 0 ≡ x.stand.room = omega arith in
        rw (records_last x.executed (done_with b []), append-nil, room) h)
        (λ b bs s control made e k l.
        let done : Q (records_by (x.executed ++ done_with b made ∷ [])) s (x.stand.room - room_of made) =
        rw (records_last x.executed (done_with b made)) (block (records_by x.executed) x.stand b s control made k h) in
        led_cases (λ t. Holds (after_turn x t)) job (past x.stand bs s made) (done_with b made) (λ ahead callers. done) done control)

    one_holds : (c : Close) (x : Sofar) → Holds x → Holds (turned_unless c job x)
    unfolding turned_unless
    one_holds not_yet x h = turn_holds x h
    one_holds at_end x h = h
    one_holds (at_refusal r place) x h = h

    pub run_holds : (n : ℕ) (x : Sofar) → Holds x → Holds (more job n x)
    unfolding more one_more
    run_holds zero x h = h
    run_holds (suc n) x h = run_holds n (one_more job x) (one_holds x.over x h)
