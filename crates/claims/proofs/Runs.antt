-- The run block by block (specs/Blockwise.antt) gives what the rules of the run give, for every budget: a data set's outcome is where
-- the run block by block stands. Every run comes to its end or to a refusal after some number of blocks.
use Rattle.std.specs.Prelude.{Result, Ok, Err, if◌then◌else◌}
use Rattle.terms.proofs.Common.{ℕ, zero, suc, ◌+◌, ◌-◌, ◌≡◌, refl, sym, ◌∙◌, ap, ap₂, subst, Bool, true, false, false≢true, not, ◌||◌, or-true, Option, None, Some, List, [], ◌∷◌, ◌++◌, append_assoc, append-nil, arith, eqb, ltb, length, drop, ne_eqb}
use Rattle.terms.specs.Terms.{any}
use Rattle.refusals.specs.{declared.Refusal.Refusal, declared.Place.Place, Numbers.number_of}
use Rattle.refusals.specs.declared.Refusal.TheVariants.{NoEnd, FirstBlock, BadSetup, DataTooLong, BadParameter}
use Rattle.setup.specs.{declared.Setup.Setup, Limits.valid_setup, declared.Bed.Bed, Fair.Fair}
use Rattle.records.specs.{declared.Record.Record, Layout.room_of}
use Rattle.settings.specs.declared.State.{State}
use Rattle.blocks.specs.{Machine.machine_of, Reach.Reachable, Keeping.Keeps, Exec.Verdict, Exec.refused, Exec.accepted, Exec.calls_in, declared.Control.Control}
use Rattle.blocks.proofs.Accepting.{accepted_kept}
use Rattle.blocks.specs.declared.Control.TheVariants.{On, Call, Back, Stop}
use Rattle.lines.specs.Blocks.{Block, blocks_of, closes, opens}
use Rattle.programs.specs.declared.Program.{Program}
use Rattle.programs.proofs.Entries.{entry_refusal}
use Rattle.programs.specs.Openings.{Table, table, place_of, known, programs_from, blocks_at, opening_of, program_after, entry_of, entered, scan_block, scan, main_as}
use Rattle.runs.specs.{declared.Budget.Budget, declared.Budget.TheVariants.Whole, declared.Budget.TheVariants.First, Run.first_of, Run.run_table, Run.run_blocks, Run.outcome}
use Rattle.runs.specs.Walk.{Job, Going, How, ended, returned, unfinished, refused_at, Outcome, nowhere, just, spent_at, is_spent, one_less, after, going_on, then_rest, follow, obey, is_skipped, slash_length, verdict_on, run_block, reached, walk, blocks_for, callees}
use Rattle.claims.specs.Answers.{early_numbers, numbered_in}
use Rattle.claims.specs.Blockwise.{BlockDone, Stand, levels, Turn, refuses, goes, ends, past, in_callee, returning, led, turn_by, verdict_in, turn_under, turn_unless, turn_in, turn_at, Close, not_yet, at_end, at_refusal, Sofar, after_turn, turned_unless, one_more, more, records_by, how_sofar, place_ahead, next_sofar, outcome_sofar, table_in, subs_of, job_for, stand_at, refused_at_once, begun_by, begun, first_blocks}
use Rattle.claims.proofs.Verdicts.{accepts, call_has_level, main_does_not_return}
use Rattle.claims.proofs.Turns.{done_with, with_machine, turn_cases, Over, more_over, records_last, run_holds}
use Rattle.programs.specs.Openings as Openings

-- ---- a program that returns goes on in the one that called it

unfoldable pub bound : Outcome → (Going → Outcome) → Outcome
bound o rest = after o.made (then_rest o.how o.last o.next rest)

bound_twice :
    (made : List Record) (how : How) (s : State) (next : Place) (f g : Going → Outcome)
    → bound (after made (then_rest how s next f)) g ≡ after made (then_rest how s next (λ x. bound (f x) g))
unfolding bound after then_rest
bound_twice made ended s next f g = simp append-nil
bound_twice made (returned x) s next f g = rw append_assoc
bound_twice made unfinished s next f g = simp append-nil
bound_twice made (refused_at refusal place) s next f g = simp append-nil

abbrev pub during : List BlockDone → Stand → Sofar
during ds st = record { executed = ds; stand = st; over = not_yet }

-- with a budget a run executes so many blocks: as many as it allows, or as many as bring it to its end or to a refusal
abbrev pub Suits : Budget → ℕ → Sofar → Type 0
Suits (First k) n x = k ≡ n
Suits Whole n x = Over x

one_less_lem : (budget : Budget) (n : ℕ) (x : Sofar) → Suits budget (suc n) x → (is_spent budget ≡ false) × Suits (one_less budget) n x
unfolding is_spent one_less
one_less_lem Whole n x c = (refl, c)
one_less_lem (First k) n x c = (ne_eqb k 0 (λ e. omega arith), omega arith)

after_none :
    (made : List Record) (how : How) (s : State) (next : Place)
    → after made (record { how = how; made = []; last = s; next = next }) ≡ record { how = how; made = made; last = s; next = next }
unfolding after
after_none made how s next = rw append-nil

after_done :
    (ds : List BlockDone) (d : BlockDone) (o : Outcome) → after (records_by ds) (after d.made o) ≡ after (records_by (ds ++ d ∷ [])) o
unfolding after
after_done ds d o = rw (records_last ds d, append_assoc)

module _ (job : Job) where
  abbrev pub program : ℕ → List Block → Going → Outcome
  program left = walk job left (callees job left)

  -- the outcome of a program, and of those that called it, behind its return
  unfoldable pub unwound : List (List Block) → Outcome → Outcome
  unwound [] o = o
  unwound (rest ∷ callers) o = bound o (λ g. unwound callers (program (levels callers) rest g))

  abbrev pub going : Stand → Budget → Going
  going st budget = record { state = st.state; room = st.room; budget = budget }

  -- what the rules of the run give from a stand
  unfoldable pub whole : Stand → Budget → Outcome
  whole st budget = unwound st.callers (program (levels st.callers) st.ahead (going st budget))

  -- what the rules give after the next block, which a run reaches with these settings
  unfoldable onward : State → Budget → Turn → Outcome
  onward s budget (refuses refusal place) = just (refused_at refusal place) s
  onward s budget (goes d st) = after d.made (whole st (one_less budget))
  onward s budget (ends d st) = after d.made (just ended st.state)

  -- so a call, and the block after it; and what is over is over in every caller, where `o` did not return
  unwound_bound :
      (callers : List (List Block)) (o : Outcome) (rest : Going → Outcome)
      → unwound callers (bound o rest) ≡ bound o (λ g. unwound callers (rest g))
  unfolding unwound bound
  unwound_bound [] o rest = refl
  unwound_bound (bs ∷ callers) o rest =
      bound_twice o.made o.how o.last o.next rest (λ g. unwound callers (program (levels callers) bs g))

  -- ---- one block

  call_leads :
      (left : ℕ) (callers : List (List Block)) (bs : List Block) (n : ℕ) (g : Going) → levels callers ≡ left → eqb left 0 ≡ false
      → unwound callers (follow (Call n) (callees job left) (program left bs) g)
      ≡ whole
      (in_callee (record { state = g.state; room = g.room; ahead = bs; callers = callers })
      (blocks_for job.blocks (known job.programs n))) g.budget
  unfolding follow callees whole in_callee bound unwound
  call_leads zero callers bs n g l e = absurd (false≢true (sym e))
  call_leads (suc left) callers bs n g l e =
      let blocks : List Block = blocks_for job.blocks (known job.programs n) in
      let below : left ≡ 4 - suc (length callers) = omega arith in
      unwound_bound callers (program left blocks g) (program (suc left) bs)
      ∙ ap₂ (λ (a b : ℕ). bound (program a blocks g) (λ h. unwound callers (program b bs h))) below (sym l)

  module _ (st : Stand) (budget : Budget) where
    abbrev out : Outcome → Outcome
    out = unwound st.callers

    abbrev left : ℕ
    left = levels st.callers

    abbrev over_here : How → Place → Type 0
    over_here how next =
        let o : Outcome = record { how = how; made = []; last = st.state; next = next } in out o ≡ o

    refused_out : (r : Refusal) (place : Place) → over_here (refused_at r place) nowhere
    unfolding bound after then_rest
    refused_out r place = unwound_bound st.callers (just (refused_at r place) st.state) (λ g. just ended st.state)

    back_leads :
        (callers : List (List Block)) (bs : List Block) (s : State) (room : ℕ) (d : BlockDone) → (callers ≡ [] → ⊥)
        → after d.made (unwound callers (just (returned (record { state = s; room = room; budget = one_less budget })) s))
        ≡ onward st.state budget (returning callers (record { state = s; room = room; ahead = bs; callers = callers }) d)
    unfolding unwound bound after then_rest returning onward whole
    back_leads [] bs s room d h = absurd (h refl)
    back_leads (rest ∷ callers) bs s room d h = refl

    -- an accepted block, by where it leads
    accepted_leads :
        (b : Block) (bs : List Block) (s : State) (control : Control) (made : List Record) → verdict_in job st b ≡ accepted s control made
        → after made (out (follow control (callees job left) (program left bs) (going_on (going st budget) s made)))
        ≡ onward st.state budget (led control job (past st bs s made) (done_with b made))
    unfolding going_on past led onward follow whole bound after then_rest calls_in
    accepted_leads b bs s On made e = refl
    accepted_leads b bs s (Call n) made e =
        ap (after made)
        (call_leads left st.callers bs n (going_on (going st budget) s made) refl (call_has_level (accepts job st b e) n refl))
    accepted_leads b bs s Back made e =
        back_leads st.callers bs s (st.room - room_of made) (done_with b made)
        (λ main. main_does_not_return (accepts job st b e) (rw main) refl)
    accepted_leads b bs s Stop made e = ap (after made) (unwound_bound st.callers (just ended s) (λ g. just ended s))

    -- a verdict
    obeyed :
        (b : Block) (bs : List Block) (v : Verdict) → verdict_in job st b ≡ v
        → out (obey v b (callees job left) (program left bs) (going st budget)) ≡ onward st.state budget (turn_by v job st b bs)
    unfolding obey turn_by onward bound after then_rest
    obeyed b bs (refused blame) e = refused_out blame.refusal (record { block = b.number; byte = blame.byte })
    obeyed b bs (accepted s control made) e =
        unwound_bound st.callers (record { how = returned (going st budget); made = made; last = s; next = nowhere })
        (λ g. follow control (callees job left) (program left bs) (going_on (going st budget) s made))
        ∙ accepted_leads b bs s control made e

    -- a block that is skipped or not
    ran :
        (skips : Bool) (b : Block) (bs : List Block)
        → out (run_block skips job left (callees job left) b (program left bs) (going st budget))
        ≡ onward st.state budget (turn_under skips job st b bs)
    unfolding run_block turn_under onward past going_on whole after verdict_in verdict_on
    ran true b bs = refl
    ran false b bs = obeyed b bs (verdict_in job st b) refl

    -- a block that is reached
    reaches :
        (closed : Bool) (b : Block) (bs : List Block)
        → out
        (reached false closed (place_of b) (run_block (is_skipped job b) job left (callees job left) b (program left bs)) (going st budget))
        ≡ onward st.state budget (turn_unless closed job st b bs)
    unfolding reached turn_unless onward
    reaches true b bs = refused_out NoEnd (place_of b)
    reaches false b bs = ran (is_skipped job b) b bs

    from_here :
        (ahead : List Block) → is_spent budget ≡ false
        → out (program left ahead (going st budget)) ≡ onward st.state budget (turn_in ahead job st)
    unfolding walk reached turn_in onward
    from_here [] e = rw e (refused_out NoEnd job.finish)
    from_here (b ∷ bs) e = rw e (reaches (opens b || closes b) b bs)

    one_block : is_spent budget ≡ false → whole st budget ≡ onward st.state budget (turn_at job st)
    unfolding whole turn_at
    one_block e = from_here st.ahead e

    spent : is_spent budget ≡ true → whole st budget ≡ spent_at st.state (place_ahead st.ahead job.finish)
    unfolding whole walk reached place_ahead bound after then_rest
    spent e = go st.ahead
      where
        stops : (place : Place) → over_here unfinished place
        stops place = unwound_bound st.callers (spent_at st.state place) (λ g. just ended st.state)

        go : (ahead : List Block) → out (program left ahead (going st budget)) ≡ spent_at st.state (place_ahead ahead job.finish)
        go [] = rw e (stops job.finish)
        go (b ∷ bs) = rw e (stops (place_of b))

  -- ---- so many blocks

  past_turn :
      (budget : Budget) (n : ℕ)
      → ((ds : List BlockDone) (st : Stand) → Suits (one_less budget) n (more job n (during ds st))
      → after (records_by ds) (whole st (one_less budget)) ≡ outcome_sofar job (more job n (during ds st)))
      → (ds : List BlockDone) (st : Stand) (t : Turn) → Suits (one_less budget) n (more job n (after_turn (during ds st) t))
      → after (records_by ds) (onward st.state budget t) ≡ outcome_sofar job (more job n (after_turn (during ds st) t))
  unfolding onward after_turn outcome_sofar how_sofar next_sofar
  past_turn budget n rest ds st (refuses refusal place) c =
      after_none (records_by ds) (refused_at refusal place) st.state nowhere
      ∙ ap (outcome_sofar job)
      (sym (more_over job n (after_turn (during ds st) (refuses refusal place)) (λ e. let z : ◌≡◌ {A = ℕ} 0 1 = cc in omega arith)))
  past_turn budget n rest ds st (goes d st') c = after_done ds d (whole st' (one_less budget)) ∙ rest (ds ++ d ∷ []) st' c
  past_turn budget n rest ds st (ends d st') c =
      after_done ds d (just ended st'.state)
      ∙ after_none (records_by (ds ++ d ∷ [])) ended st'.state nowhere
      ∙ ap (outcome_sofar job)
      (sym (more_over job n (after_turn (during ds st) (ends d st')) (λ e. let z : ◌≡◌ {A = ℕ} 0 1 = cc in omega arith)))

  counted :
      (n : ℕ) (budget : Budget) (ds : List BlockDone) (st : Stand) → Suits budget n (more job n (during ds st))
      → after (records_by ds) (whole st budget) ≡ outcome_sofar job (more job n (during ds st))
  unfolding is_spent more one_more turned_unless outcome_sofar how_sofar next_sofar
  counted zero Whole ds st c = absurd (c refl)
  counted zero (First k) ds st c =
      rw c
      (ap (after (records_by ds)) (spent st (First zero) refl)
      ∙ after_none (records_by ds) unfinished st.state (place_ahead st.ahead job.finish))
  counted (suc n) budget ds st c =
      let less = one_less_lem budget n (more job (suc n) (during ds st)) c in
      ap (after (records_by ds)) (one_block st budget less.0)
      ∙ past_turn budget n (counted n (one_less budget)) ds st (turn_at job st) less.1

  -- ---- an end: programs have blocks in a row, and calls go down

  -- some number of blocks brings the run to its end or to a refusal, whatever was executed before
  record Finishes (st : Stand) : Type 0 where
    blocks : ℕ
    over : (ds : List BlockDone) → Over (more job blocks (during ds st))

  abbrev OnFinishes : Turn → Type 0
  OnFinishes (refuses refusal place) = Unit {0}
  OnFinishes (goes d st) = Finishes st
  OnFinishes (ends d st) = Unit {0}

  turn_finishes : (st : Stand) (t : Turn) → turn_at job st ≡ t → OnFinishes t → Finishes st
  unfolding after_turn more one_more turned_unless
  turn_finishes st (refuses refusal place) e h = record { blocks = 1; over = λ ds. rw e (λ k. let z : ◌≡◌ {A = ℕ} 0 1 = cc in omega arith) }
  turn_finishes st (goes d st') e h =
      record {
        blocks = suc h.blocks;
        over = λ ds. subst (λ (u : Turn). Over (more job h.blocks (after_turn (during ds st) u))) (sym e) (h.over (ds ++ d ∷ []));
      }
  turn_finishes st (ends d st') e h = record { blocks = 1; over = λ ds. rw e (λ k. let z : ◌≡◌ {A = ℕ} 0 1 = cc in omega arith) }

  -- a place in programs from which every run finishes
  abbrev Place-finishes : List Block → List (List Block) → Type 0
  Place-finishes ahead callers =
      (s : State) (room : ℕ) → Finishes (record { state = s; room = room; ahead = ahead; callers = callers })

  -- a program's callers, from wherever it returns
  abbrev CallersFinish : List (List Block) → Type 0
  CallersFinish [] = Unit {0}
  CallersFinish (rest ∷ above) = Place-finishes rest above

  -- every program with so many levels left finishes, where its callers do
  abbrev LevelFinishes : ℕ → Type 0
  LevelFinishes left =
      (ahead : List Block) (callers : List (List Block)) → levels callers ≡ left → CallersFinish callers → Place-finishes ahead callers

  abbrev Below : ℕ → Type 0
  Below zero = Unit {0}
  Below (suc left) = LevelFinishes left

  led_finishes :
      (left : ℕ) (bs : List Block) (callers : List (List Block)) (control : Control) (s : State) (room : ℕ) (d : BlockDone)
      → levels callers ≡ left → ((n : ℕ) → control ≡ Call n → eqb left 0 ≡ false)
      → Below left → Place-finishes bs callers → CallersFinish callers
      → OnFinishes (led control job (record { state = s; room = room; ahead = bs; callers = callers }) d)
  unfolding led in_callee returning
  led_finishes left bs callers On s room d l deep below here above = here s room
  led_finishes zero bs callers (Call n) s room d l deep below here above = absurd (false≢true (sym (deep n refl)))
  led_finishes (suc left) bs callers (Call n) s room d l deep below here above =
      below (blocks_for job.blocks (known job.programs n)) (bs ∷ callers) (omega arith) here s room
  led_finishes left bs [] Back s room d l deep below here above = tt
  led_finishes left bs (rest ∷ callers) Back s room d l deep below here above = above s room
  led_finishes left bs callers Stop s room d l deep below here above = tt

  block_finishes :
      (left : ℕ) → Below left → (ahead : List Block) (callers : List (List Block)) → levels callers ≡ left → CallersFinish callers
      → ((b : Block) (bs : List Block) → ahead ≡ b ∷ bs → Place-finishes bs callers) → Place-finishes ahead callers
  unfolding past calls_in
  block_finishes left below ahead callers l above here s room =
      let st : Stand = record { state = s; room = room; ahead = ahead; callers = callers } in
      turn_finishes st (turn_at job st) refl
      (turn_cases OnFinishes job st (λ place e. tt) (λ b bs blame e k. tt) (λ b bs e k. here b bs e s (room - room_of []))
      (λ b bs s' control made e k m.
      led_finishes left bs callers control s' (room - room_of made) (done_with b made) l
      (λ n c. rw l at (call_has_level (accepts job st b k) n c)) below (here b bs e) above))

  program_finishes : (left : ℕ) → Below left → LevelFinishes left
  program_finishes left below [] callers l above =
      block_finishes left below [] callers l above (λ b bs e. let z : ◌≡◌ {A = ℕ} 0 1 = cc in absurd (omega arith))
  program_finishes left below (b ∷ bs) callers l above =
      block_finishes left below (b ∷ bs) callers l above
      (λ b' bs' e. let rest : bs ≡ bs' = cc in rw (← rest) (program_finishes left below bs callers l above))

  level_finishes : (left : ℕ) → LevelFinishes left
  level_finishes zero = program_finishes zero tt
  level_finishes (suc left) = program_finishes (suc left) (level_finishes left)

-- ---- how a run begins

-- a test and its two outcomes
pub by_test : {A : Type 0} (P : A → Type 0) (t : Bool) {a b : A} → P a → P b → P (if t then a else b)
by_test P true x y = x
by_test P false x y = y

if_ap : {A B : Type 0} (f : A → B) (t : Bool) (a b : A) → (if t then f a else f b) ≡ f (if t then a else b)
if_ap f true a b = refl
if_ap f false a b = refl

-- "13, 12, 11; then per opening 1, 8, 7": which refusals come before any block is executed
abbrev Early : Table → Type 0
Early t = (r : Refusal) (place : Place) → t ≡ Openings.refused_at r place → numbered_in early_numbers r ≡ true

no_refusal : (main : Program) (subs : List Program) → Early (table main subs)
no_refusal main subs r place e = let z : ◌≡◌ {A = ℕ} 0 1 = cc in absurd (omega arith)

entered_early :
    (main : Program) (subs : List Program) (b : Block) (rest : List Program → Table) (e : Result ℕ Refusal) → entry_of main subs (opening_of b) ≡ e
    → ((ps : List Program) → Early (rest ps)) → Early (entered e subs b rest)
unfolding entered any
entered_early main subs b rest (Err refusal) k on r place e =
    let same : refusal ≡ r = cc in
    let n = number_of r in
    ap (λ (t : Bool). eqb n 13 || (eqb n 12 || (eqb n 11 || t))) (rw same at (entry_refusal main subs (opening_of b) refusal k))
    ∙ rw (or-true (eqb n 11), or-true (eqb n 12), or-true (eqb n 13))
entered_early main subs b rest (Ok n) k on r place e = on (subs ++ program_after n b ∷ []) r place e

scan_early : (main : Program) (bs : List Block) (subs : List Program) → Early (scan main bs subs)
unfolding scan scan_block
scan_early main [] subs = no_refusal main subs
scan_early main (b ∷ bs) subs = go (closes b) (opens b) (scan_early main bs)
  where
    go :
        (end opening : Bool) → ((ps : List Program) → Early (scan main bs ps)) → Early (scan_block end opening main subs b (scan main bs))
    go true opening on = no_refusal main subs
    go false true on = entered_early main subs b (scan main bs) (entry_of main subs (opening_of b)) refl on
    go false false on = on subs

main_early : (o : Option ℕ) (b : Block) (bs : List Block) → Early (main_as o b bs)
unfolding main_as any
main_early None b bs r place e = let same : BadParameter ≡ r = cc in rw (← same)
main_early (Some n) b bs r place e = scan_early (program_after n b) bs [] r place e

programs_early : (percent : Block) (bs : List Block) → Early (programs_from percent bs)
unfolding programs_from
programs_early percent [] = no_refusal (program_after 0 percent) []
programs_early percent (b ∷ bs) =
    by_test Early (opens b) (main_early (opening_of b) b bs) (scan_early (program_after 0 percent) (b ∷ bs) [])

table_early : (bs : List Block) → Early (table_in bs)
unfolding table_in any
table_early [] = λ r place e. let same : FirstBlock ≡ r = cc in rw (← same)
table_early (percent ∷ bs) =
    by_test Early (closes percent) (programs_early percent bs) (λ r place e. let same : FirstBlock ≡ r = cc in rw (← same))

-- the blocks of the data, by the table of programs
by_table :
    (s : Setup) (bytes : List ℕ) (room : ℕ) (budget : Budget) (bs : List Block)
    → run_blocks s bytes room budget bs ≡ run_table s bytes bs room budget (table_in bs)
unfolding run_blocks run_table table_in
by_table s bytes room budget [] = refl
by_table s bytes room budget (b ∷ bs) = if_ap (run_table s bytes (b ∷ bs) room budget) (closes b) (programs_from b bs) _

module _ (s : Setup) (bytes : List ℕ) (room : ℕ) (budget : Budget) (P : Sofar → Outcome → Type 0) where
  abbrev Once : Refusal → Place → Type 0
  Once r place = P (refused_at_once (first_of s) room r place) (just (refused_at r place) (first_of s))

  abbrev Tabled : Type 0
  Tabled =
      let t : Table = table_in (blocks_of bytes) in
      P (begun_by t (first_of s) (blocks_of bytes) room) (run_table s bytes (blocks_of bytes) room budget t)

  -- too much data, a setup that breaks a limit, or the table of programs under a valid setup
  pub by_order :
      Once DataTooLong nowhere → Once BadSetup nowhere → (valid_setup s ≡ true → Tabled)
      → P (begun s bytes room) (outcome s bytes room budget)
  unfolding outcome begun
  by_order long bad on = rw (by_table s bytes room budget (blocks_of bytes)) (go (ltb 65_535 (length bytes)) (valid_setup s) on)
    where
      go :
          (too valid : Bool) → (valid ≡ true → Tabled)
          → P
          (if too then refused_at_once (first_of s) room DataTooLong nowhere
          else (if not valid then refused_at_once (first_of s) room BadSetup nowhere
          else begun_by (table_in (blocks_of bytes)) (first_of s) (blocks_of bytes) room))
          (if too then just (refused_at DataTooLong nowhere) (first_of s)
          else (if not valid then just (refused_at BadSetup nowhere) (first_of s)
          else run_table s bytes (blocks_of bytes) room budget (table_in (blocks_of bytes))))
      go true valid next = long
      go false false next = bad
      go false true next = next refl

  -- refused at once, by a number of those that come so, or before the main's first block, under a valid setup
  pub begun_cases :
      ((r : Refusal) (place : Place) → numbered_in early_numbers r ≡ true → Once r place)
      → ((blocks : List Block) → valid_setup s ≡ true
      → P (during [] (stand_at (first_of s) room blocks)) (whole (job_for s bytes) (stand_at (first_of s) room blocks) budget))
      → P (begun s bytes room) (outcome s bytes room budget)
  unfolding begun_by run_table job_for whole unwound stand_at subs_of any
  begun_cases at_once at-blocks =
      by_order (at_once DataTooLong nowhere refl) (at_once BadSetup nowhere refl)
      (go (table_in (blocks_of bytes)) refl (table_early (blocks_of bytes)))
    where
      go :
          (t : Table) → table_in (blocks_of bytes) ≡ t → Early t → valid_setup s ≡ true
          → P (begun_by t (first_of s) (blocks_of bytes) room) (run_table s bytes (blocks_of bytes) room budget t)
      go (Openings.refused_at r place) e early v = at_once r place (early r place refl)
      go (table main subs) e early v = rw e at (at-blocks (blocks_at (blocks_of bytes) main) v)

pub open_how : (c : Close) → how_sofar c ≡ unfinished → c ≡ not_yet
unfolding how_sofar
open_how not_yet e = refl
open_how at_end e = let z : ◌≡◌ {A = ℕ} 0 1 = cc in absurd (omega arith)
open_how (at_refusal r place) e = let z : ◌≡◌ {A = ℕ} 0 1 = cc in absurd (omega arith)

module _ (s : Setup) (bytes : List ℕ) (room : ℕ) where
  -- a run that is refused before its first block stays so
  pub once_over :
      (n : ℕ) (r : Refusal) (place : Place)
      → more (job_for s bytes) n (refused_at_once (first_of s) room r place) ≡ refused_at_once (first_of s) room r place
  unfolding refused_at_once
  once_over n r place = more_over (job_for s bytes) n _ (λ e. let z : ◌≡◌ {A = ℕ} 0 1 = cc in omega arith)

  -- with a budget that suits n, the first n executed blocks
  pub gives :
      (n : ℕ) (budget : Budget) → Suits budget n (first_blocks s bytes room n)
      → outcome s bytes room budget ≡ outcome_sofar (job_for s bytes) (first_blocks s bytes room n)
  unfolding first_blocks refused_at_once stand_at outcome_sofar how_sofar next_sofar records_by after
  gives n budget =
      begun_cases s bytes room budget
      (λ x o. Suits budget n (more (job_for s bytes) n x) → o ≡ outcome_sofar (job_for s bytes) (more (job_for s bytes) n x))
      (λ r place early c. sym (ap (outcome_sofar (job_for s bytes)) (once_over n r place)))
      (λ blocks v c. counted (job_for s bytes) n budget [] (stand_at (first_of s) room blocks) c)

  pub first_n : (n : ℕ) → outcome s bytes room (First n) ≡ outcome_sofar (job_for s bytes) (first_blocks s bytes room n)
  first_n n = gives n (First n) refl

  -- every budget suits some n
  pub suited : (budget : Budget) → (n : ℕ) × Suits budget n (first_blocks s bytes room n)
  unfolding first_blocks more refused_at_once stand_at
  suited (First n) = (n, refl)
  suited Whole =
      begun_cases s bytes room Whole (λ x o. (n : ℕ) × Over (more (job_for s bytes) n x))
      (λ r place early. (0, λ e. let z : ◌≡◌ {A = ℕ} 0 1 = cc in omega arith))
      (λ blocks v. let f = level_finishes (job_for s bytes) 4 blocks [] refl tt (first_of s) room in (f.blocks, f.over []))

  pub how_first : (n : ℕ) → (outcome s bytes room (First n)).how ≡ how_sofar (first_blocks s bytes room n).over
  unfolding outcome_sofar
  how_first n = ap (λ (o : Outcome). o.how) (first_n n)

  -- before the first block nothing is executed, and the settings are the first ones
  pub begun_with :
      (Q : List BlockDone → State → Type 0) → Q [] (first_of s) → Q (begun s bytes room).executed (begun s bytes room).stand.state
  unfolding refused_at_once stand_at
  begun_with Q first =
      begun_cases s bytes room Whole (λ x o. Q x.executed x.stand.state) (λ r place early. first) (λ blocks v. first)

-- every block of a run keeps to the states that a run can reach
module _ (bed : Bed) (fair : Fair bed) (job : Job) where
  pub block_keeps :
      (st : Stand) (b : Block) (s : State) (control : Control) (made : List Record)
      → verdict_in (with_machine (machine_of bed) job) st b ≡ accepted s control made → Reachable bed st.state
      → Keeps bed st.room st.state s made
  unfolding verdict_in verdict_on
  block_keeps st b s control made e reach =
      accepted_kept bed (calls_in job.programs (levels st.callers)) st.room st.state b.start fair reach
      (b.start + slash_length b) (drop (slash_length b) b.text) s control made e

  pub reach_kept :
      (n : ℕ) (x : Sofar) → Reachable bed x.stand.state → Reachable bed (more (with_machine (machine_of bed) job) n x).stand.state
  reach_kept n x reach =
      run_holds (λ rs s left. Reachable bed s) (with_machine (machine_of bed) job)
      (λ rs st b s control made e h. (block_keeps st b s control made e h).state) n x reach
