-- The loop from call to call: what a call of a number leads to, and the walk of the subprogram. Assumes nothing.
use Rattle.std.specs.Prelude.{Result, Ok, Err}
use Rattle.terms.proofs.Common.{ℕ, zero, suc, ◌+◌, ◌-◌, ◌≤◌, ◌<◌, ◌≡◌, refl, ◌∙◌, Bool, true, false, Option, None, Some, List, [], arith, ne_eqb, eqb, length}
use Rattle.terms.specs.Terms.{first_of, stands}
use Rattle.refusals.specs.declared.Refusal.{Refusal, TheVariants.NumberNotFound, TheVariants.NestOver}
use Rattle.lines.specs.Serving.{blocks_from}
use Rattle.records.specs.Layout.{room_of, list_bytes}
use Rattle.programs.specs.{declared.Program.Program, Answers.callee_by, Openings.known, Found.subs_of, Places.Placed}
use Rattle.blocks.specs.{Exec.calls_in, Exec.call_to, Exec.unknown_call, Exec.too_deep, Exec.at_start, Exec.unless, Calling.called}
use Rattle.runs.specs.declared.Progress.{Progress}
use Rattle.runs.specs.Walk.{Going, refused_at, Outcome, just, going_on, after, then_rest, follow, obey, walk, blocks_for, callees}
use Rattle.interpreter.specs.declared.{Task.Task, How.TheVariants.Returned, How.TheVariants.Refused, Ending.Ending, Leg.Leg}
use Rattle.interpreter.specs.Progressing.{job_of, going_of, walk_from, call_from, how_by, next_by, outcome_by, Ran, Sound, Reaches}
use Rattle.interpreter.proofs.{Endings.ran_still, Endings.ran_after, Endings.ran_length, Endings.ran_then, Endings.ran_stops, Rounds.Walking}

-- a subprogram that a call leads to is the one of the number, and a level is left for it
found_is : {program : Program} (o : Option Program) (left : ℕ) → Ok program ≡ callee_by o left → (o ≡ Some program) × (1 ≤ left)
unfolding callee_by
found_is None left e = let z : ◌≡◌ {A = ℕ} 0 1 = cc in absurd (omega arith)
found_is (Some q) zero e = let z : ◌≡◌ {A = ℕ} 0 1 = cc in absurd (omega arith)
found_is {program} (Some q) (suc left) e =
    let f : ◌≡◌ {A = Result Program Refusal} (Ok program) (Ok q) = rw (ne_eqb (suc left) 0 (λ h. omega arith)) at e in
    let g : q ≡ program = cc in
    (rw g, omega arith)

-- the walk of a call is the walk of its subprogram, with one level less
callee_is :
    (l : List ℕ) (task : Task) (left room n : ℕ) (program : Program) (q : Progress) → 1 ≤ left
    → known (subs_of task.programs) n ≡ Some program → Placed l program
    → callees (job_of l task) left n (going_of room q) ≡ walk_from l room task (left - 1) program.block program.byte q
unfolding callees blocks_for walk_from job_of
callee_is l task zero room n program q h e b = absurd (omega arith)
callee_is l task (suc left) room n program q h e b =
    let one : suc left - 1 ≡ left = omega arith in
    rw (one, e, b.begins.blocks)

module _ (l : List ℕ) (task : Task) (left number : ℕ) (leg : Leg) (room : ℕ) where
  -- the walk of the subprogram and what follows it, or the refusal of the call
  abbrev follows : Result Program Refusal → Outcome
  follows (Err refusal) = just (refused_at refusal leg.place) leg.before.state
  follows (Ok program) =
      let o = callees (job_of l task) left number (going_of room leg.after) in
      after []
      (after o.made
      (then_rest o.how o.last o.next
      (walk (job_of l task) left (callees (job_of l task) left) (blocks_from l (leg.place.block + 1) leg.byte))))

  -- "5; 6"
  call_is :
      {callee : Result Program Refusal} → callee ≡ callee_by (known (subs_of task.programs) number) left
      → going_of room leg.after ≡ going_on (going_of room leg.before) leg.after.state []
      → call_from l room task left number leg ≡ follows callee
  unfolding callee_by call_from called unless first_of at_start call_to unknown_call too_deep calls_in obey follow going_of stands
  call_is {callee} c going = go (known (subs_of task.programs) number) (eqb left 0) refl refl
    where
      go : (o : Option Program) (deep : Bool) → known (subs_of task.programs) number ≡ o → eqb left 0 ≡ deep → call_from l room task left number leg ≡ follows callee
      go None deep e f = let h : callee ≡ Err NumberNotFound = rw e at c in rw h (rw e)
      go (Some q) true e f = let h : callee ≡ Err NestOver = rw (e, f) at c in rw h (rw (e, f))
      go (Some q) false e f = let h : callee ≡ Ok q = rw (e, f) at c in rw h (rw (e, f, going))

-- a walk that comes to a call
pub record Comes (l : List ℕ) (task : Task) (left : ℕ) (whole : Outcome) (p₀ : Progress) (was list : List ℕ) (n at : ℕ) (p : Progress)
    (is : List ℕ) (number : ℕ) (leg : Leg) : Type 0 where
  pub walking : Walking l task left whole p₀ was list n at p
  pub reaches : Reaches l task left n at p list is number leg

pub comes :
    {l : List ℕ} {task : Task} {left : ℕ} {whole : Outcome} {p₀ : Progress} {was list : List ℕ} {n at : ℕ} {p : Progress} {is : List ℕ}
    {number : ℕ} {leg : Leg}
    → Walking l task left whole p₀ was list n at p → Reaches l task left n at p list is number leg
    → Comes l task left whole p₀ was list n at p is number leg
comes walking reaches = record { walking = walking; reaches = reaches }

module _ {l : List ℕ} {task : Task} {left : ℕ} {whole : Outcome} {p₀ : Progress} {was list : List ℕ} {n at : ℕ} {p : Progress} {is : List ℕ}
    {number : ℕ} {leg : Leg} (c : Comes l task left whole p₀ was list n at p is number leg) where
  pub caller_kept : length is ≡ length was
  caller_kept = c.reaches.kept ∙ c.walking.kept

  pub caller_less : length l - leg.byte < length l - at
  caller_less = omega (arith, c.reaches.later, c.reaches.begins.inside)

  -- what the walk from the call on leaves, the whole walk leaves
  on :
      {callee : Result Program Refusal} {last : List ℕ} {e : Ending} → callee ≡ callee_by (known (subs_of task.programs) number) left
      → Ran task.bed (follows l task left number leg (length is) callee) leg.before is last e → Ran task.bed whole p₀ was last e
  on {last = last} {e = e} f h =
      c.walking.same last e (c.reaches.same last e (rw (call_is l task left number leg (length is) f c.reaches.going) h))

  pub call_refused :
      {refusal : Refusal} → Err refusal ≡ callee_by (known (subs_of task.programs) number) left
      → Ran task.bed whole p₀ was is (record { how = Refused refusal; place = leg.place; progress = leg.before })
  unfolding outcome_by how_by next_by
  call_refused {refusal} f =
      on f (ran_still task.bed (record { how = Refused refusal; place = leg.place; progress = leg.before }) c.reaches.before)

  -- a call whose subprogram is found, with a level for it
  module _ (sound : Sound l task) {program : Program} (f : Ok program ≡ callee_by (known (subs_of task.programs) number) left) where
    pub call_level : 1 ≤ left
    call_level = (found_is (known (subs_of task.programs) number) left f).1

    pub call_placed : Placed l program
    call_placed = sound.places number program (found_is (known (subs_of task.programs) number) left f).0

    module _ {is' : List ℕ} {e : Ending} (ran : Ran task.bed (walk_from l (length is) task (left - 1) program.block program.byte leg.after) leg.after is is' e) where
      pub call_kept : length is' ≡ length was
      call_kept = ran_length task.bed ran ∙ caller_kept

      -- the walk of the subprogram, as the rules call it, and what follows it
      ran_call : Ran task.bed (callees (job_of l task) left number (going_of (length is) leg.after)) leg.after is is' e
      ran_call =
          rw (callee_is l task left (length is) number program leg.after call_level (found_is (known (subs_of task.programs) number) left f).0 call_placed)
          ran

      abbrev onwards : Going → Outcome
      onwards = walk (job_of l task) left (callees (job_of l task) left) (blocks_from l (leg.place.block + 1) leg.byte)

      into :
          {last : List ℕ} {x : Ending}
          → (let o = callees (job_of l task) left number (going_of (length is) leg.after) in
          Ran task.bed (after o.made (then_rest o.how o.last o.next onwards)) leg.after is last x)
          → Ran task.bed whole p₀ was last x
      unfolding list_bytes room_of
      into h = on f (ran_after task.bed [] refl (omega (arith, c.reaches.next)) (omega (arith, c.reaches.count)) h)

      pub walking_stops : (e.how ≡ Returned → ⊥) → Ran task.bed whole p₀ was is' e
      walking_stops never = into (ran_stops task.bed ran_call onwards never)

      pub walking_back : e.how ≡ Returned → Walking l task left whole p₀ was is' (leg.place.block + 1) leg.byte e.progress
      unfolding walk_from
      walking_back back =
          let same = ran_length task.bed ran in
          record {
            begins = c.reaches.begins;
            fits = rw same ran.fits;
            kept = call_kept;
            same = λ last z h. into (ran_then task.bed ran_call onwards back (rw same at h));
          }
