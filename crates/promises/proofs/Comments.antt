-- "Bytes inside a comment, replaced by others that are neither `)`, LF nor CR, change no record and no answer."
use Rattle.std.specs.Prelude.{if◌then◌else◌}
use Rattle.terms.proofs.Common.{ℕ, zero, suc, ◌+◌, ◌-◌, ◌≡◌, refl, ap, Bool, true, false, false≢true, ◌||◌, inl, inr, ⊎_elim, Option, None, Some, List, [], ◌∷◌, arith, eqb-false, ne_eqb, not-true, eqb, length, drop}
use Rattle.terms.{specs.Terms.byte, proofs.Laws.either_left, proofs.Laws.either_right}
use Rattle.refusals.specs.declared.Refusal.TheVariants.{FirstBlock}
use Rattle.lines.specs.{Blocks.Block, Blocks.begins_with, Blocks.no_text, Blocks.closes, Blocks.opens, Blocks.is_slashed, Comments.open_after, Comments.inside_at}
use Rattle.lines.specs.Alike.{Alike, nothing, outside, begins, inside, AlikeBlock, AlikeBlocks}
use Rattle.lines.proofs.Comments.{length_alike, words_alike, blocks_alike, begins_alike, percent_alike, later_outside, later_inside}
use Rattle.programs.{specs.declared.Program.Program, proofs.Comments.programs_alike}
use Rattle.programs.specs.Openings.{Table, table, refused_at, place_of, known, programs_from}
use Rattle.setup.specs.{declared.Setup.Setup, Frame.bed_of, Frame.switch_on}
use Rattle.blocks.specs.{Machine.machine_of, Exec.Verdict, Exec.refused, Exec.accepted, Exec.exec, Exec.exec_words, Exec.calls_in}
use Rattle.runs.specs.declared.Budget.{Budget}
use Rattle.runs.specs.Walk.{Job, Going, Outcome, just, going_on, obey, is_spent, is_skipped, slash_length, verdict_on, run_block, reached, walk, blocks_for, callees}
use Rattle.runs.specs.Run.{first_of, finish_of, run_table, run_blocks, outcome, records_of, answer_of, standing_of}
use Rattle.promises.specs.Comments.{MayBecome, Replaced, SameRun}
use Rattle.lines.specs.Alike as Alikes
use Rattle.runs.specs.Walk as Walk

-- ---- one block

module _ {a b : Block} (same : AlikeBlock a b) where
  place_alike : place_of a ≡ place_of b
  place_alike = rw (same.number, same.start)

  slashed_alike : is_slashed a ≡ is_slashed b
  slashed_alike = begins_alike 47 same.text

  slash_alike : slash_length a ≡ slash_length b
  unfolding slash_length
  slash_alike = rw slashed_alike

  -- past a slash no comment is open
  past_slash : Alike false (drop (slash_length a) a.text) (drop (slash_length a) b.text)
  unfolding slash_length begins_with
  past_slash = go same.text
    where
      past :
          {b : ℕ} {s u : List ℕ} (t : Bool) → Alike false (b ∷ s) (b ∷ u) → Alike false s u
          → Alike false (drop (if t then 1 else 0) (b ∷ s)) (drop (if t then 1 else 0) (b ∷ u))
      past true whole rest = rest
      past false whole rest = whole

      go :
          {s u : List ℕ} → Alike false s u
          → Alike false (drop (if begins_with 47 s then 1 else 0) s) (drop (if begins_with 47 s then 1 else 0) u)
      go nothing = nothing
      go (outside {b} f r) = past (eqb b 47) (outside f r) r
      go (begins r) = begins r

-- two data sets that differ only inside comments, and else give the same job
record AlikeJobs (p q : Job) : Type 0 where
  machine : p.machine ≡ q.machine
  skips : p.skips ≡ q.skips
  blocks : AlikeBlocks p.blocks q.blocks
  finish : p.finish ≡ q.finish
  programs : p.programs ≡ q.programs

skipped_alike : {p q : Job} {a b : Block} → AlikeJobs p q → AlikeBlock a b → is_skipped p a ≡ is_skipped q b
unfolding is_skipped
skipped_alike jobs same = rw (slashed_alike same, jobs.skips)

verdict_alike :
    {p q : Job} {a b : Block} → AlikeJobs p q → AlikeBlock a b → (left : ℕ) (g : Going) → verdict_on p left a g ≡ verdict_on q left b g
unfolding verdict_on exec
verdict_alike {p} {q} {a} {b} jobs same left g =
    rw (← slash_alike same, ← same.start, ← jobs.machine, ← jobs.programs)
    (ap (exec_words p.machine (calls_in p.programs left) g.room g.state a.start)
    (words_alike (past_slash same) (a.start + slash_length a)))

-- ---- the walk

module _ {p q : Job} (jobs : AlikeJobs p q) where
  module _
      {a b : Block} (same : AlikeBlock a b) (left : ℕ) {c d : ℕ → Going → Outcome} (calls : c ≡ d) {f h : Going → Outcome} (on : f ≡ h)
    where
      obey_alike : (v : Verdict) (g : Going) → obey v a d h g ≡ obey v b d h g
      unfolding obey
      obey_alike (refused blame) g = rw same.number
      obey_alike (accepted s control made) g = refl

      block_alike : (skipped : Bool) (g : Going) → run_block skipped p left c a f g ≡ run_block skipped q left d b h g
      unfolding run_block
      block_alike true g = ap (λ (k : Going → Outcome). k (going_on g g.state [])) on
      block_alike false g = rw (verdict_alike jobs same left g, calls, on) (obey_alike (verdict_on q left b g) g)

  walk_alike :
      {as' bs : List Block} → AlikeBlocks as' bs → (left : ℕ) {c d : ℕ → Going → Outcome} → c ≡ d → (g : Going)
      → walk p left c as' g ≡ walk q left d bs g
  unfolding walk
  walk_alike Alikes.none left calls g = rw jobs.finish
  walk_alike (Alikes.more {a} {b} {as'} {bs} same rest) left {c} {d} calls g =
      let on : walk p left c as' ≡ walk q left d bs = λ i h. walk_alike rest left calls h i in
      rw (← begins_alike 79 same.text, ← percent_alike same.text, ← place_alike same, ← skipped_alike jobs same)
      (ap (λ (run : Going → Outcome). reached (is_spent g.budget) (opens a || closes a) (place_of a) run g)
      (λ i h. block_alike same left calls on (is_skipped p a) h i))

drop_alike : {as' bs : List Block} (k : ℕ) → AlikeBlocks as' bs → AlikeBlocks (drop k as') (drop k bs)
drop_alike zero r = r
drop_alike (suc k) Alikes.none = Alikes.none
drop_alike (suc k) (Alikes.more same rest) = drop_alike k rest

-- the blocks of a subprogram
called_alike :
    {p q : Job} → AlikeJobs p q → (n : ℕ)
    → AlikeBlocks (blocks_for p.blocks (known p.programs n)) (blocks_for q.blocks (known q.programs n))
unfolding blocks_for
called_alike {p} {q} jobs n =
    let same : known p.programs n ≡ known q.programs n = ap (λ (ps : List Program). known ps n) jobs.programs in
    rw (← same) (go (known p.programs n))
  where
    go : (o : Option Program) → AlikeBlocks (blocks_for p.blocks o) (blocks_for q.blocks o)
    go None = Alikes.none
    go (Some program) = drop_alike (program.block - 1) jobs.blocks

callees_alike : {p q : Job} → AlikeJobs p q → (left n : ℕ) (g : Going) → callees p left n g ≡ callees q left n g
unfolding callees
callees_alike jobs zero n g = refl
callees_alike jobs (suc left) n g = walk_alike jobs (called_alike jobs n) left (λ i m h. callees_alike jobs left m h i) g

-- ---- the run

count_alike : {as' bs : List Block} → AlikeBlocks as' bs → length as' ≡ length bs
count_alike Alikes.none = refl
count_alike (Alikes.more same rest) = ap suc (count_alike rest)

module _ (s : Setup) {x y : List ℕ} (same : Alike false x y) (room : ℕ) (budget : Budget) where
  table_alike :
      {as' bs : List Block} → AlikeBlocks as' bs → (t : Table) → run_table s x as' room budget t ≡ run_table s y bs room budget t
  unfolding run_table finish_of
  table_alike r (refused_at refusal place) = refl
  table_alike {as'} {bs} r (table main subs) =
      walk_alike jobs (drop_alike (main.block - 1) r) 4 (λ i n h. callees_alike jobs 4 n h i)
      (record { state = first_of s; room = room; budget = budget })
    where
      p : Job
      p = record { machine = machine_of (bed_of s); skips = switch_on s; blocks = as'; finish = finish_of x as'; programs = subs }

      q : Job
      q = record { machine = machine_of (bed_of s); skips = switch_on s; blocks = bs; finish = finish_of y bs; programs = subs }

      jobs : AlikeJobs p q
      jobs = record { machine = refl; skips = refl; blocks = r; finish = rw (count_alike r, length_alike same); programs = refl }

  run_blocks_alike : {as' bs : List Block} → AlikeBlocks as' bs → run_blocks s x room budget as' ≡ run_blocks s y room budget bs
  unfolding run_blocks
  run_blocks_alike Alikes.none = refl
  run_blocks_alike (Alikes.more {a} {b} {as'} {bs} first rest) =
      rw (← percent_alike first.text, ← programs_alike first rest)
      (ap (λ (o : Outcome). if closes a then o else just (Walk.refused_at FirstBlock (record { block = 1; byte = 0 })) (first_of s))
      (table_alike (Alikes.more first rest) (programs_from a as')))

  outcome_alike : outcome s x room budget ≡ outcome s y room budget
  unfolding outcome
  outcome_alike = rw (← length_alike same, run_blocks_alike (blocks_alike same))

  -- Data that differs only inside comments gives the same answer and the same records, and the run stands at the same place.
  pub comments_change_nothing : SameRun s room budget x y
  unfolding answer_of records_of standing_of
  comments_change_nothing = record { answer = rw outcome_alike; records = rw outcome_alike; standing = rw outcome_alike }

-- ---- bytes replaced

-- the first byte is the same
same_first : (open' : Bool) (b c : ℕ) (s t : List ℕ) → b ≡ c → Alike (open_after open' b s) s t → Alike open' (b ∷ s) (c ∷ t)
same_first false b c s t e r = rw (← e) (later_outside b r)
same_first true b c s t e r = rw (← e) (later_inside b r)

-- the first byte is inside a comment and replaced
other_first :
    (open' : Bool) (b c : ℕ) (s t : List ℕ) → MayBecome open' (b ∷ s) 0 c → Alike (open_after open' b s) s t → Alike open' (b ∷ s) (c ∷ t)
unfolding inside_at no_text
other_first false b c s t m r = absurd (false≢true m.inside)
other_first true b c s t m r =
    let stays : (eqb b 41 || no_text (b ∷ s)) ≡ false = not-true (eqb b 41 || no_text (b ∷ s)) m.inside in
    let paren : eqb b 41 ≡ false = either_left (eqb b 41) (no_text (b ∷ s)) stays in
    let text : no_text (b ∷ s) ≡ false = either_right (eqb b 41) (no_text (b ∷ s)) stays in
    let other : no_text (c ∷ t) ≡ false = rw (ne_eqb c 10 m.lf, ne_eqb c 13 m.cr) in
    inside (eqb-false b 41 paren) m.paren text other (rw m.inside at r)

-- what follows the first byte
replaced_rest : {open' : Bool} {b c : ℕ} {s t : List ℕ} → Replaced open' (b ∷ s) (c ∷ t) → Replaced (open_after open' b s) s t
unfolding inside_at
replaced_rest {open'} {b} {c} {s} {t} r =
    record {
      size = omega (arith, r.size);
      each = λ i h.
          ⊎_elim
          (λ e. inl e)
          (λ m. inr (record { inside = m.inside; paren = m.paren; lf = m.lf; cr = m.cr }))
          (r.each (suc i) (omega arith));
    }

replaced_alike : (open' : Bool) (x y : List ℕ) → Replaced open' x y → Alike open' x y
replaced_alike open' [] [] r = nothing
replaced_alike open' [] (c ∷ t) r = absurd (omega (arith, r.size))
replaced_alike open' (b ∷ s) [] r = absurd (omega (arith, r.size))
replaced_alike open' (b ∷ s) (c ∷ t) r =
    ⊎_elim
    (λ e. same_first open' b c s t e (replaced_alike (open_after open' b s) s t (replaced_rest r)))
    (λ m. other_first open' b c s t m (replaced_alike (open_after open' b s) s t (replaced_rest r)))
    (r.each 0 (omega arith))

-- Bytes inside comments, replaced by others that are neither `)`, LF nor CR, change no record, no answer and no setting: as many
-- of them as one likes, under every setup, room and budget.
pub comment_bytes_replaced :
    (s : Setup) (room : ℕ) (budget : Budget) (x y : List ℕ) → Replaced false x y → SameRun s room budget x y
comment_bytes_replaced s room budget x y r = comments_change_nothing s (replaced_alike false x y r) room budget
