-- What the code of a block answers, by the verdict of the rules, and what the verdict keeps. Assumes nothing.
use Rattle.std.specs.Prelude.{if◌then◌else◌, Result, Ok, Err}
use Rattle.terms.proofs.Common.{ℕ, ◌+◌, ◌-◌, ◌≤◌, ◌≡◌, refl, ◌∙◌, ap, Bool, true, false, ◌&&◌, List, [], ◌∷◌, arith, length, drop, drop-drop}
use Rattle.refusals.specs.declared.Blame.{Blame}
use Rattle.lines.proofs.Laws.{text_drop, text_next}
use Rattle.lines.specs.Blocks.{Block, is_slashed, begins_with, text_from, length_from, block_from}
use Rattle.setup.specs.Fair.{Fair}
use Rattle.records.specs.{declared.Record.Record, Layout.room_of, Layout.list_bytes}
use Rattle.settings.specs.declared.State.{State}
use Rattle.blocks.specs.declared.{Control.Control, Control.TheVariants.On, Control.TheVariants.Call, Done.Done}
use Rattle.blocks.specs.{Machine.machine_of, Exec.Verdict, Exec.refused, Exec.accepted, Exec.exec, Calling.freely, Reach.Reachable, Doing.made_of, Doing.executed, Doing.Does}
use Rattle.blocks.proofs.{Accepting.accepted_kept, Calling.exec_makes_none}
use Rattle.execution.specs.declared.Ground.{Ground}
use Rattle.runs.specs.Walk.{slash_length}
use Rattle.interpreter.specs.Progressing.{verdict_at}

-- ---- the verdict that an answer tells

-- an accepted block: what its answer says of the verdict
pub record Accepts (at after : ℕ) (v : Verdict) (done : Done) : Type 0 where
  pub verdict : v ≡ accepted done.state done.control (made_of v)
  pub next : done.next ≡ at + room_of (made_of v)
  pub count : done.count ≡ length (made_of v)
  pub place : done.after ≡ after

module _ (at after : ℕ) where
  pub accepted_is : (v : Verdict) (done : Done) → Ok done ≡ executed at after v → Accepts at after v done
  unfolding executed made_of
  accepted_is (refused blame) done e = let z : ◌≡◌ {A = ℕ} 0 1 = cc in absurd (omega arith)
  accepted_is (accepted s control made) done e =
      let f : done ≡ record { state = s; control = control; next = at + room_of made; count = length made; after = after } = cc in
      rw f (record { verdict = refl; next = refl; count = refl; place = refl })

  pub refused_is :
      (v : Verdict) {blame : Blame} → Err blame ≡ executed at after v → v ≡ refused blame
  unfolding executed
  refused_is (refused other) {blame} e = let f : blame ≡ other = cc in rw f
  refused_is (accepted s control made) e = let z : ◌≡◌ {A = ℕ} 0 1 = cc in absurd (omega arith)

-- ---- what an accepted block keeps, skipped or executed: settings that a run can reach, and its records in the room

module _ (footing : Ground) (skips : Bool) (b : Block) (room : ℕ) (s : State) where
  -- the verdict by whether the block is skipped
  abbrev verdict_by : Bool → Verdict
  verdict_by skipped =
      if skipped then accepted s On []
      else
      exec (machine_of footing.bed) (freely footing.left) room s b.start (b.start + slash_length b)
      (drop (slash_length b) b.text)

  pub verdict_kept :
      {after : State} {control : Control} {made : List Record} → Fair footing.bed → Reachable footing.bed s → verdict_at footing skips b room s ≡ accepted after control made
      → (Reachable footing.bed after) × (room_of made ≤ room)
  unfolding verdict_at room_of
  verdict_kept {after} {control} {made} fair state e = go (is_slashed b && skips) e
    where
      go : (skipped : Bool) → verdict_by skipped ≡ accepted after control made → (Reachable footing.bed after) × (room_of made ≤ room)
      go true e =
          let f : s ≡ after = cc in
          let g : [] ≡ made = cc in
          rw (← f, ← g) (state, omega arith)
      go false e =
          let k = accepted_kept footing.bed (freely footing.left) room s b.start fair state (b.start + slash_length b) (drop (slash_length b) b.text) after control made e in
          (k.state, k.fits)

  -- and a block that calls makes no record
  pub verdict_quiet : {n : ℕ} {after : State} {made : List Record} → verdict_at footing skips b room s ≡ accepted after (Call n) made → made ≡ []
  unfolding verdict_at
  verdict_quiet {n} {after} {made} e = go (is_slashed b && skips) e
    where
      go : (skipped : Bool) → verdict_by skipped ≡ accepted after (Call n) made → made ≡ []
      go true e = cc
      go false e = exec_makes_none (machine_of footing.bed) (freely footing.left) room s b.start (b.start + slash_length b) (drop (slash_length b) b.text) n after made e

-- ---- the verdict on a block without a slash, with one that is ignored, and on one that is skipped

text_some : (text : List ℕ) → begins_with 47 text ≡ true → 1 ≤ length text
unfolding begins_with
text_some [] e = let z : ◌≡◌ {A = ℕ} 0 1 = cc in absurd (omega arith)
text_some (b ∷ bs) e = omega arith

module _ (l : List ℕ) (footing : Ground) (skips : Bool) (n at next : ℕ) (state : State) (was : List ℕ) where
  abbrev after_it : ℕ
  after_it = at + length_from (drop at l)

  abbrev Did : List ℕ → Result Done Blame → Type 0
  Did is r = Does footing.bed.offset (verdict_at footing skips (block_from n at (drop at l)) (length was - next) state) was next after_it is r

  -- what the words from a byte on give
  abbrev DidFrom : ℕ → List ℕ → Result Done Blame → Type 0
  DidFrom from is r =
      Does footing.bed.offset
      (exec (machine_of footing.bed) (freely footing.left) (length was - next) state at from (text_from (drop from l))) was next
      (from + length_from (drop from l)) is r

  pub does_plain : {is : List ℕ} {r : Result Done Blame} → begins_with 47 (text_from (drop at l)) ≡ false → DidFrom at is r → Did is r
  unfolding verdict_at slash_length
  does_plain e h =
      let f : at + 0 ≡ at = omega arith in
      rw (e, f) h

  module _ (e : begins_with 47 (text_from (drop at l)) ≡ true) where
    pub does_slashed : {is : List ℕ} {r : Result Done Blame} → skips ≡ false → DidFrom (at + 1) is r → Did is r
    unfolding verdict_at slash_length
    does_slashed f h =
        let some : 1 ≤ length (text_from (drop at l)) = text_some (text_from (drop at l)) e in
        let g : drop 1 (text_from (drop at l)) ≡ text_from (drop (at + 1) l) =
        text_drop 1 (drop at l) some ∙ ap text_from (drop-drop 1 at l)
        in
        let k : after_it ≡ at + 1 + length_from (drop (at + 1) l) =
        omega (arith, text_next 1 (drop at l) some, ap length_from (drop-drop 1 at l))
        in
        rw (e, f, g, k) h

    pub does_skipped :
        {after : ℕ} → skips ≡ true → after ≡ after_it
        → Did was (Ok (record { state = state; control = On; next = next; count = 0; after = after }))
    unfolding verdict_at executed made_of room_of list_bytes
    does_skipped f g =
        let h : next + 0 ≡ next = omega arith in
        rw (e, f, g) (record { answer = rw h; bytes = refl })
