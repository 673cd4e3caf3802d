-- The walk at a place of the data: what the block there leads to. Assumes nothing.
use Rattle.std.specs.Prelude.{if◌then◌else◌}
use Rattle.terms.proofs.Common.{ℕ, ◌+◌, ◌≤◌, ◌<◌, ◌≡◌, refl, sym, ◌∙◌, ap, Bool, true, false, ◌&&◌, ◌||◌, List, [], arith, dec_lt, length, drop, drop_of_length-le}
use Rattle.terms.specs.Terms.{first_of}
use Rattle.refusals.specs.declared.{Refusal.TheVariants.NoEnd, Place.Place}
use Rattle.lines.{specs.Serving.blocks_from, proofs.Lines.at_place, proofs.Lines.blocks_step, proofs.Lines.blocks_end}
use Rattle.lines.specs.Blocks.{Block, block_from, length_from, begins_with, is_percent, is_slashed, text_from}
use Rattle.programs.specs.{Places.Begins, Found.subs_of}
use Rattle.settings.specs.declared.State.{State}
use Rattle.blocks.{specs.Machine.machine_of, specs.Calling.freely, specs.Calling.called, specs.declared.Control.TheVariants.On, proofs.Calling.exec_called}
use Rattle.blocks.specs.Exec.{Calls, calls_in, call_to, unknown_call, too_deep, at_start, Verdict, accepted, unless, exec}
use Rattle.runs.specs.Walk.{Going, Outcome, refused_at, just, spent_at, after, is_spent, is_skipped, slash_length, follow, obey, verdict_on, run_block, reached, walk}
use Rattle.interpreter.specs.{Progressing.job_of, Progressing.program_ends, Progressing.verdict_at, declared.Task.Task}
use Rattle.interpreter.proofs.Places.{begins_end}

-- a program ends at the data's end, at an opening and at `%` alone
pub ends_past : (l : List ℕ) (at : ℕ) → length l ≤ at → program_ends (drop at l) ≡ true
unfolding program_ends
ends_past l at h = rw (drop_of_length-le l h)

ends_at :
    (l : List ℕ) (at : ℕ) → at < length l
    → program_ends (drop at l) ≡ (begins_with 79 (text_from (drop at l)) || is_percent (text_from (drop at l)))
unfolding program_ends
ends_at l at h = rw (at_place l at h)

pub ends_opening : (l : List ℕ) (at : ℕ) → at < length l → begins_with 79 (text_from (drop at l)) ≡ true → program_ends (drop at l) ≡ true
ends_opening l at h e = ends_at l at h ∙ rw e

pub ends_percent :
    (l : List ℕ) (at : ℕ) → at < length l → begins_with 79 (text_from (drop at l)) ≡ false
    → program_ends (drop at l) ≡ is_percent (text_from (drop at l))
ends_percent l at h e = ends_at l at h ∙ rw e

pub goes_inside : (l : List ℕ) (at : ℕ) → program_ends (drop at l) ≡ false → at < length l
goes_inside l at e =
    elim (dec_lt at (length l)) [
      | yes h ↦ h
      | no h ↦
          let z : true ≡ false = sym (ends_past l at (omega arith)) ∙ e in
          let y : ◌≡◌ {A = ℕ} 0 1 = cc in
          omega arith
    ]

-- where a program ends, no block is run
not_run :
    (spent : Bool) (place : Place) (run run' : Going → Outcome) (g : Going) → reached spent true place run g ≡ reached spent true place run' g
unfolding reached
not_run true place run run' g = refl
not_run false place run run' g = refl

-- the verdict on a block of a task, but for its call
abbrev pub free_verdict : Task → ℕ → Block → ℕ → State → Verdict
free_verdict task left b room s = verdict_at (record { bed = task.bed; left = left }) task.skips b room s

module _ (l : List ℕ) (task : Task) (left : ℕ) (callee : ℕ → Going → Outcome) (g : Going) (b : Block) (rest : Going → Outcome) where
  abbrev calls : Calls
  calls = calls_in (subs_of task.programs) left

  abbrev free : Verdict
  free =
      exec (machine_of task.bed) (freely left) g.room g.state b.start (b.start + slash_length b)
      (drop (slash_length b) b.text)

  -- a skipped block is one that is accepted and does nothing, and an executed one is asked for its call last
  skipped_as :
      (t : Bool)
      → run_block t (job_of l task) left callee b rest g
      ≡ obey (called calls b.start (if t then accepted g.state On [] else free)) b callee rest g
  unfolding run_block obey after follow called unless first_of at_start call_to unknown_call too_deep verdict_on job_of calls_in
  skipped_as true = refl
  skipped_as false =
      ap (λ (v : Verdict). obey v b callee rest g)
      (exec_called (machine_of task.bed) calls g.room g.state b.start (b.start + slash_length b) (drop (slash_length b) b.text))

  pub run_as :
      run_block (is_skipped (job_of l task) b) (job_of l task) left callee b rest g
      ≡ obey (called calls b.start (free_verdict task left b g.room g.state)) b callee rest g
  unfolding verdict_at is_skipped job_of
  run_as = skipped_as (is_slashed b && task.skips)

module _ (l : List ℕ) (task : Task) (left : ℕ) (callee : ℕ → Going → Outcome) (g : Going) (n at : ℕ) (begins : Begins l n at) where
  abbrev b : Block
  b = block_from n at (drop at l)

  abbrev rest : Going → Outcome
  rest = walk (job_of l task) left callee (blocks_from l (n + 1) (at + length_from (drop at l)))

  walk_at :
      walk (job_of l task) left callee (blocks_from l n at) g
      ≡ reached (is_spent g.budget) (program_ends (drop at l)) (record { block = n; byte = at })
      (run_block (is_skipped (job_of l task) b) (job_of l task) left callee b rest) g
  unfolding walk job_of
  walk_at =
      elim (dec_lt at (length l)) [
        | yes h ↦ rw (blocks_step l n at h, ends_at l at h)
        | no h ↦
            let past : length l ≤ at = omega arith in
            rw (blocks_end l n at past, ends_past l at past, ← begins_end begins past) (not_run (is_spent g.budget) _ _ _ g)
      ]

  pub walk_spent :
      is_spent g.budget ≡ true
      → walk (job_of l task) left callee (blocks_from l n at) g ≡ spent_at g.state (record { block = n; byte = at })
  unfolding reached
  walk_spent e = walk_at ∙ rw e

  module _ (e : is_spent g.budget ≡ false) where
    pub walk_ends :
        program_ends (drop at l) ≡ true
        → walk (job_of l task) left callee (blocks_from l n at) g ≡ just (refused_at NoEnd (record { block = n; byte = at })) g.state
    unfolding reached
    walk_ends f = walk_at ∙ rw (e, f)

    pub walk_goes :
        program_ends (drop at l) ≡ false
        → walk (job_of l task) left callee (blocks_from l n at) g
        ≡ obey (called (calls_in (subs_of task.programs) left) at (free_verdict task left b g.room g.state)) b callee rest g
    unfolding reached
    walk_goes f = walk_at ∙ rw (e, f) (run_as l task left callee g b rest)
