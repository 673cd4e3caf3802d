-- Which refusals come at a block, and that 16 never comes: under a valid setup a centre is within 1,100,000,000 of the machine's
-- zero, and under another no block is reached.
use Rattle.std.specs.Prelude.{if◌then◌else◌}
use Rattle.terms.proofs.Common.{ℕ, ◌+◌, ◌≡◌, refl, sym, ◌∙◌, ap, Bool, true, false, false≢true, ◌⊎◌, inl, inr, List, [], arith, eqb, ltb, length, drop}
use Rattle.terms.specs.Terms.{any}
use Rattle.refusals.specs.declared.Refusal.{Refusal, TheVariants.BadSetup, TheVariants.DataTooLong, TheVariants.NoEnd}
use Rattle.refusals.specs.{declared.Place.Place, Numbers.number_of, Answers.refused_with, Answers.report_of}
use Rattle.setup.specs.{declared.Bed.Bed, declared.Setup.Setup, Limits.valid_setup, Frame.bed_of, Fair.Fair}
use Rattle.records.specs.declared.Record.{Record}
use Rattle.settings.specs.declared.State.{State}
use Rattle.blocks.specs.{Machine.machine_of, Reach.Reachable, Exec.calls_in}
use Rattle.runs.specs.{declared.Budget.Budget, declared.Budget.TheVariants.Whole, Run.first_of, Run.outcome, Run.answer_by, Run.answer_of}
use Rattle.runs.specs.Walk.{Job, How, ended, returned, unfinished, refused_at, Outcome, nowhere, just, slash_length, verdict_on}
use Rattle.runs.proofs.Starting.{first_reached}
use Rattle.claims.specs.Blockwise.{Stand, levels, refuses, verdict_in, turn_at, not_yet, Sofar, more, job_for, stand_at, refused_at_once, first_blocks}
use Rattle.claims.specs.Answers.{early_numbers, block_numbers, numbered_in, RefusedBlock, RefusedWhere, at_once, at_block}
use Rattle.claims.proofs.{Verdicts.exec_number, Turns.done_with, Turns.with_machine, Turns.turn_cases, Turns.led_cases, Answers.still_open, Answers.turn_refused, Answers.refused_adds_nothing}
use Rattle.claims.proofs.Runs.{during, begun_cases, once_over, reach_kept}
use Rattle.setup.proofs.Valid as Valid

turn_number :
    (bed : Bed) (fair : Fair bed) (job : Job) (st : Stand) → Reachable bed st.state
    → (r : Refusal) (place : Place) → turn_at (with_machine (machine_of bed) job) st ≡ refuses r place → numbered_in block_numbers r ≡ true
unfolding any verdict_in verdict_on
turn_number bed fair job st reach r place =
    turn_cases (λ t. t ≡ refuses r place → numbered_in block_numbers r ≡ true) (with_machine (machine_of bed) job) st
    (λ at e k. let same : NoEnd ≡ r = cc in rw (← same))
    (λ b bs blame e v k.
    let same : blame.refusal ≡ r = cc in
    rw (← same)
    (exec_number bed fair (calls_in job.programs (levels st.callers)) st.room st.state b.start (b.start + slash_length b)
    (drop (slash_length b) b.text) blame reach v))
    (λ b bs e m k. let z : ◌≡◌ {A = ℕ} 0 1 = cc in absurd (omega arith))
    (λ b bs s control made e v m.
    led_cases (λ t. t ≡ refuses r place → numbered_in block_numbers r ≡ true) _ _ (done_with b made)
    (λ ahead callers k. let z : ◌≡◌ {A = ℕ} 0 1 = cc in absurd (omega arith))
    (λ k. let z : ◌≡◌ {A = ℕ} 0 1 = cc in absurd (omega arith)) control)

-- ---- a data set under a setup

-- a number of either kind
abbrev OneOf : Refusal → Type 0
OneOf r = (numbered_in early_numbers r ≡ true) ⊎ (numbered_in block_numbers r ≡ true)

not_one : (r : Refusal) → number_of r ≡ 16 → OneOf r → ⊥
unfolding any
not_one r e (inl h) = false≢true (ap (λ (n : ℕ). any (eqb n) early_numbers) (sym e) ∙ h)
not_one r e (inr h) = false≢true (ap (λ (n : ℕ). any (eqb n) block_numbers) (sym e) ∙ h)

-- the refusal that an answer tells of
told :
    (how : How) (k number : ℕ) (place : Place) (count : ℕ) → report_of (answer_by how k) ≡ refused_with number place count
    → (r : Refusal) × (how ≡ refused_at r place) × (number_of r ≡ number)
unfolding answer_by
told ended k number place count e = let never : ◌≡◌ {A = ℕ} 0 1 = cc in absurd (omega arith)
told (returned g) k number place count e = let never : ◌≡◌ {A = ℕ} 0 1 = cc in absurd (omega arith)
told unfinished k number place count e = let never : ◌≡◌ {A = ℕ} 0 1 = cc in absurd (omega arith)
told (refused_at r at) k number place count e =
    let same : at ≡ place = cc in
    let is : number_of r ≡ number = cc in
    (r, ap (refused_at r) same, is)

module _ (s : Setup) (six : length s.origins ≡ 6) (bytes : List ℕ) (room : ℕ) where
  -- blocks are reached only under a valid setup, and in states that a run can reach
  block_number :
      (n : ℕ) → (first_blocks s bytes room n).over ≡ not_yet → (r : Refusal) (place : Place)
      → turn_at (job_for s bytes) (first_blocks s bytes room n).stand ≡ refuses r place → numbered_in block_numbers r ≡ true
  unfolding first_blocks job_for refused_at_once stand_at
  block_number n =
      begun_cases s bytes room Whole
      (λ x o.
      (more (job_for s bytes) n x).over ≡ not_yet → (r : Refusal) (place : Place)
      → turn_at (job_for s bytes) (more (job_for s bytes) n x).stand ≡ refuses r place → numbered_in block_numbers r ≡ true)
      (λ q at early open'.
      let e = ap (λ (x : Sofar). x.over) (once_over s bytes room n q at) in
      let never : ◌≡◌ {A = ℕ} 0 1 = cc in
      absurd (omega arith))
      (λ blocks v open'.
      turn_number (bed_of s) (Valid.fair s v six) (job_for s bytes) (more (job_for s bytes) n (during [] (stand_at (first_of s) room blocks))).stand
      (reach_kept (bed_of s) (Valid.fair s v six) (job_for s bytes) n (during [] (stand_at (first_of s) room blocks)) (first_reached s v)))

  -- at a block it is one of those that come there
  pub block_refusals :
      (r : Refusal) (place : Place) (made : List Record) (last : State) → RefusedBlock s bytes room r place made last
      → numbered_in block_numbers r ≡ true
  block_refusals r place made last at_block_lem =
      let n = at_block_lem.before in
      let e = still_open s bytes room n (ap (λ (o : Outcome). o.how) at_block_lem.stops) in
      block_number n e r place (turn_refused s bytes room r place n e (ap (λ (o : Outcome). o.how) at_block_lem.refused))

  -- every refusal of a run has a number of those that come before any block, or of those that come at one
  pub which_refusals :
      (budget : Budget) (r : Refusal) (place : Place) → (outcome s bytes room budget).how ≡ refused_at r place
      → (numbered_in early_numbers r ≡ true) ⊎ (numbered_in block_numbers r ≡ true)
  which_refusals budget r place e = go _ _ (refused_adds_nothing s bytes room r place budget e)
    where
      go : (made : List Record) (last : State) → RefusedWhere s bytes room r place made last → OneOf r
      go made last (at_once early told standing none_made first) = inl early
      go made last (at_block at_block_lem) = inr (block_refusals r place made last at_block_lem)

  -- "16: Arc centre does not fit four signed bytes" never comes, whatever the setup is
  pub never_sixteen :
      (budget : Budget) (place : Place) (count : ℕ) → report_of (answer_of s bytes room budget) ≡ refused_with 16 place count → ⊥
  unfolding answer_of
  never_sixteen budget place count e =
      let o = outcome s bytes room budget in
      let t = told o.how (length o.made) 16 place count e in
      not_one t.0 t.2 (which_refusals budget t.0 place t.1)

-- a setup that breaks a limit gets 13 or 12, and no block is reached
pub invalid_setup :
    (s : Setup) (bytes : List ℕ) (room : ℕ) (budget : Budget) → valid_setup s ≡ false
    → report_of (answer_of s bytes room budget) ≡ refused_with (if ltb 65_535 (length bytes) then 13 else 12) nowhere 0
unfolding answer_of outcome answer_by
invalid_setup s bytes room budget e = rw e (go (ltb 65_535 (length bytes)))
  where
    by : Bool → Outcome
    by long =
        if long then just (refused_at DataTooLong nowhere) (first_of s) else just (refused_at BadSetup nowhere) (first_of s)

    go : (long : Bool) → report_of (answer_by (by long).how (length (by long).made)) ≡ refused_with (if long then 13 else 12) nowhere 0
    go true = refl
    go false = refl
