-- What a verdict on a block says: what an accepted block has passed and where it leads, which refusals a block can get, and what
-- another machine, whose two tests "16; 9" differ, says of a block that was accepted.
use Rattle.words.specs.Values.{worth}
use Rattle.std.specs.Prelude.{if◌then◌else◌}
use Rattle.terms.proofs.Common.{ℕ, ◌+◌, ◌≡◌, refl, sym, ◌∙◌, ap, Bool, true, false, true≢false, not, ◌&&◌, ◌||◌, Option, None, Some, List, [], ◌∷◌, ◌++◌, arith, eqb, ltb, drop, nat_abs, not-false}
use Rattle.terms.{specs.Terms.all, specs.Terms.any, specs.Terms.first, specs.Terms.first_of, proofs.Laws.either_left, proofs.Laws.either_right}
use Rattle.refusals.specs.declared.Refusal.{Refusal}
use Rattle.refusals.specs.declared.Refusal.TheVariants.{BadParameter, AddressUndefined, ParameterUndefined, CannotExecute, NumberNotFound, NestOver, LeavesTravel, NoRoom, Unreadable, CentreTooFar}
use Rattle.refusals.specs.declared.Blame.{Blame}
use Rattle.lengths.specs.declared.Point.{Point}
use Rattle.codes.specs.Codes.{misc_number, is_m, is_no_m, ends_program}
use Rattle.words.specs.{declared.Word.Word, Words.Words, Words.these, Words.bad_at, Words.words_of}
use Rattle.letters.specs.Letters.{is_known, is_g, is_misc, misc_in, misc_or_other, misc_of_block, stands_alone, wrong_program, repeats, bad_g, bad_m, may_not_stand, first_that_may_not, has_centre, first_unused, first_bad_value}
use Rattle.setup.specs.{declared.Bed.Bed, Fair.Fair}
use Rattle.records.specs.{declared.Record.Record, Layout.room_of, Path.end_of, Path.path_stays_in}
use Rattle.settings.specs.declared.State.{State}
use Rattle.blocks.{specs.Machine.Machine, specs.Machine.machine_of, specs.Reach.Reachable, specs.declared.Said.Said, specs.declared.Control.Control, proofs.Meaning.meant, proofs.Making.made_fits}
use Rattle.blocks.specs.declared.Control.TheVariants.{On, Call, Back, Stop}
use Rattle.blocks.specs.Exec.{Calls, Verdict, refused, accepted, said_by, moves_in, made_by, settled, control_of, in_main, call_to, unknown_call, lacks_parameter, cannot_drill, at_word, too_deep, at_start, blames, unless, judged, exec_words, exec, calls_in}
use Rattle.blocks.proofs.Accepting.{AllNone, none_before, all_none, past_all, word_none, start_none, judged_accepts}
use Rattle.lines.specs.Blocks.{Block}
use Rattle.runs.specs.Walk.{Job, slash_length, verdict_on}
use Rattle.claims.specs.{Blockwise.Stand, Blockwise.levels, Blockwise.verdict_in, Answers.block_numbers, Answers.numbered_in}

-- ---- an accepted block

-- the refusals of a block but for the last three
abbrev first_blames : Machine → Calls → State → ℕ → List Word → Said → List (Option Blame)
first_blames machine calls s start ws b =
    at_word CannotExecute (first_that_may_not (in_main calls) [] ws)
    ∷ at_word AddressUndefined (first_unused b.code b.modes.plane (has_centre b.code b.modes.plane ws) ws)
    ∷ at_word BadParameter (first_bad_value machine.speeds b.modes b.code ws)
    ∷ at_start start ParameterUndefined (lacks_parameter b.code b.values)
    ∷ at_start start NumberNotFound (unknown_call calls (call_to (control_of b)))
    ∷ at_start start NestOver (too_deep calls (call_to (control_of b)))
    ∷ at_start start CannotExecute (cannot_drill s b)
    ∷ at_start start BadParameter (not (moves_in machine s b).sound) ∷ []

-- "16; 9; 10"
abbrev last_blames : Machine → ℕ → Point → ℕ → List Record → List (Option Blame)
last_blames machine room at start made =
    at_start start CentreTooFar (not (all machine.fits made))
    ∷ at_start start LeavesTravel (not (path_stays_in machine.stays at made))
    ∷ at_start start NoRoom (ltb room (room_of made)) ∷ []

-- the words of an accepted block, that none of its refusals stands, and what the verdict holds
pub record Accepts
    (machine : Machine) (calls : Calls) (room : ℕ) (s : State) (start at : ℕ) (text : List ℕ) (t : State) (c : Control)
    (made : List Record) : Type 0
  where
    pub ws : List Word
    pub read : words_of at text ≡ these ws
    pub first : AllNone (first_blames machine calls s start ws (said_by machine s.modes ws))
    pub last : AllNone (last_blames machine room s.at start (made_by machine s (said_by machine s.modes ws)))
    pub is :
        accepted t c made
        ≡ accepted (settled machine s (said_by machine s.modes ws)) (control_of (said_by machine s.modes ws))
        (made_by machine s (said_by machine s.modes ws))

exec_accepts :
    (machine : Machine) (calls : Calls) (room : ℕ) (s : State) (start at : ℕ) (text : List ℕ)
    {t : State} {c : Control} {made : List Record}
    → exec machine calls room s start at text ≡ accepted t c made → Accepts machine calls room s start at text t c made
unfolding exec exec_words blames
exec_accepts machine calls room s start at text {t} {c} {made} = go (words_of at text) refl
  where
    go :
        (w : Words) → words_of at text ≡ w → exec_words machine calls room s start w ≡ accepted t c made
        → Accepts machine calls room s start at text t c made
    go (bad_at bad) r e = let z : ◌≡◌ {A = ℕ} 0 1 = cc in absurd (omega arith)
    go (these ws) r e =
        let b : Said = said_by machine s.modes ws in
        let last : List (Option Blame) = last_blames machine room s.at start (made_by machine s b) in
        let h = judged_accepts machine calls room s start ws b e in
        let p = none_before (first_blames machine calls s start ws b) last h.0 in
        record { ws = ws; read = r; first = p.0; last = all_none last p.1; is = h.1 }

-- the same of a block of the run
pub accepts :
    (job : Job) (st : Stand) (b : Block) {t : State} {c : Control} {made : List Record} → verdict_in job st b ≡ accepted t c made
    → Accepts job.machine (calls_in job.programs (levels st.callers)) st.room st.state b.start (b.start + slash_length b)
    (drop (slash_length b) b.text) t c made
unfolding verdict_in verdict_on
accepts job st b = exec_accepts _ _ _ _ _ _ _

-- "M99 in the main .. refusal 4": no word of an accepted block of the main is M99
no_return_words : (before ws : List Word) → first_that_may_not true before ws ≡ None → is_m 99 (misc_or_other (first is_misc ws)) ≡ false
unfolding first misc_or_other is_m misc_number first_that_may_not may_not_stand bad_m wrong_program
no_return_words before [] e = refl
no_return_words before (w ∷ ws) e = go (may_not_stand true before w) (is_misc w) (no_return_words (before ++ w ∷ []) ws) refl refl e
  where
    go :
        (bad misc : Bool) → (first_that_may_not true (before ++ w ∷ []) ws ≡ None → is_m 99 (misc_or_other (first is_misc ws)) ≡ false)
        → may_not_stand true before w ≡ bad → is_misc w ≡ misc
        → (if bad then Some w else first_that_may_not true (before ++ w ∷ []) ws) ≡ None
        → is_m 99 (misc_or_other (if misc then Some w else first is_misc ws)) ≡ false
    go true misc rest b m e = let z : ◌≡◌ {A = ℕ} 0 1 = cc in absurd (omega arith)
    go false false rest b m e = rest e
    go false true rest b m e =
        let others = not (is_known w.letter) || repeats before w || is_g w && bad_g before w in
        let its = either_right others (is_misc w && bad_m true before w) b in
        let bad : bad_m true before w ≡ false = rw m at its in
        let alone = stands_alone (misc_in w) && any is_g before in
        either_right (is_no_m (misc_in w)) (is_m 99 (misc_in w)) (either_left (is_no_m (misc_in w) || is_m 99 (misc_in w)) alone bad)

not_back : (t v : Bool) (n : ℕ) → Back ≡ (if t then Call n else (if v then Stop else On)) → ⊥
not_back true v n e = let z : ◌≡◌ {A = ℕ} 0 1 = cc in omega arith
not_back false true n e = let z : ◌≡◌ {A = ℕ} 0 1 = cc in omega arith
not_back false false n e = let z : ◌≡◌ {A = ℕ} 0 1 = cc in omega arith

module _
    {machine : Machine} {calls : Calls} {room : ℕ} {s : State} {start at : ℕ} {text : List ℕ} {t : State} {c : Control}
    {made : List Record} (a : Accepts machine calls room s start at text t c made)
  where
    abbrev said : Said
    said = said_by machine s.modes a.ws

    -- a call is accepted only where a level is left
    pub call_has_level : (n : ℕ) → c ≡ Call n → eqb calls.left 0 ≡ false
    unfolding too_deep call_to
    call_has_level n e =
        let i = a.is in
        let call : control_of said ≡ Call n = cc in
        rw call at (start_none start NestOver (too_deep calls (call_to (control_of said))) a.first.1.1.1.1.1.0)

    pub main_does_not_return : in_main calls ≡ true → c ≡ Back → ⊥
    unfolding said_by misc_of_block control_of
    main_does_not_return main e =
        let i = a.is in
        let back : Back ≡ control_of said = cc in
        let stand = word_none CannotExecute (first_that_may_not (in_main calls) [] a.ws) a.first.0 in
        let none_is : is_m 99 said.misc ≡ false = no_return_words [] a.ws (rw main at stand) in
        not_back (is_m 98 said.misc) (ends_program said.misc) (nat_abs (worth said.values.p).v) (rw none_is at back)

    -- its path stays in the travel, and the tool stands where it ends
    pub accepted_path : (path_stays_in machine.stays s.at made ≡ true) × (t.at ≡ end_of s.at made)
    unfolding settled
    accepted_path =
        let i = a.is in
        let all_made : made ≡ made_by machine s said = cc in
        let state : t ≡ settled machine s said = cc in (
          ap (path_stays_in machine.stays s.at) all_made
              ∙ not-false _
              (start_none start LeavesTravel (not (path_stays_in machine.stays s.at (made_by machine s said))) a.last.1.0),
          ap (λ (u : State). u.at) state ∙ ap (end_of s.at) (sym all_made),
        )

-- ---- another machine

-- the machine of a bed with two other tests
abbrev pub other_tests : Bed → (Record → Bool) → (Point → Record → Bool) → Machine
other_tests bed fits stays =
    record { origin = (machine_of bed).origin; speeds = (machine_of bed).speeds; fits = fits; stays = stays }

last_says :
    (machine : Machine) (room : ℕ) (at : Point) (start : ℕ) (made : List Record) (t : Bool) → all machine.fits made ≡ true
    → path_stays_in machine.stays at made ≡ t → ltb room (room_of made) ≡ false
    → first_of (last_blames machine room at start made) ≡ (if t then None else Some (record { refusal = LeavesTravel; byte = start }))
unfolding first_of at_start
last_says machine room at start made true e f g = rw (e, f, g)
last_says machine room at start made false e f g = rw (e, f)

module _ (bed : Bed) (fair : Fair bed) where
  -- 16 never comes
  fits_all :
      (s : State) → Reachable bed s → (ws : List Word) (b : Said) → said_by (machine_of bed) s.modes ws ≡ b
      → at_word BadParameter (first_bad_value (machine_of bed).speeds b.modes b.code ws) ≡ None
      → all (machine_of bed).fits (made_by (machine_of bed) s b) ≡ true
  unfolding said_by
  fits_all s state ws b e n =
      let value = word_none BadParameter (first_bad_value (machine_of bed).speeds b.modes b.code ws) n in
      made_fits bed s b (record { fair = fair; state = state; said = rw e at (meant bed s ws fair state (rw (← e) at value)) })

  -- where a block is accepted under other tests, the bed's machine accepts it with the same records or refuses it for travel
  pub twin :
      (fits : Record → Bool) (stays : Point → Record → Bool) {calls : Calls} {room : ℕ} {s : State} {start at : ℕ} {text : List ℕ}
      {t : State} {c : Control} {made : List Record} → Reachable bed s
      → Accepts (other_tests bed fits stays) calls room s start at text t c made
      → (u : Bool) → path_stays_in (machine_of bed).stays s.at made ≡ u
      → exec (machine_of bed) calls room s start at text
      ≡ (if u then accepted t c made else refused (record { refusal = LeavesTravel; byte = start }))
  unfolding exec exec_words judged unless blames settled said_by made_by moves_in
  twin fits stays {calls} {room} {s} {start} {t = t} {c = c} {made = made} state a u path =
      let m : Machine = machine_of bed in
      let b : Said = said_by m s.modes a.ws in
      let i = a.is in
      let same : made ≡ made_by m s b = cc in
      let fitting = fits_all s state a.ws b refl a.first.1.1.0 in
      let space = start_none start NoRoom (ltb room (room_of (made_by m s b))) a.last.1.1.0 in
      let says = last_says m room s.at start (made_by m s b) u fitting (ap (path_stays_in m.stays s.at) (sym same) ∙ path) space in
      ap (exec_words m calls room s start) a.read
      ∙ ap (λ (o : Option Blame). unless o (accepted (settled m s b) (control_of b) (made_by m s b)))
      (past_all (first_blames m calls s start a.ws b) (last_blames m room s.at start (made_by m s b)) a.first ∙ says)
      ∙ by u (record { refusal = LeavesTravel; byte = start }) (sym i)
    where
      by : (u : Bool) (blame : Blame) {v w : Verdict} → v ≡ w → unless (if u then None else Some blame) v ≡ (if u then w else refused blame)
      by true blame e = e
      by false blame e = refl

  -- ---- a refused block

  -- what a test blames has one of a block's numbers
  abbrev Blames : Option Blame → Type 0
  Blames o = (blame : Blame) → o ≡ Some blame → numbered_in block_numbers blame.refusal ≡ true

  at_word_lem : (r : Refusal) (o : Option Word) → numbered_in block_numbers r ≡ true → Blames (at_word r o)
  unfolding at_word
  at_word_lem r None h blame e = let z : ◌≡◌ {A = ℕ} 0 1 = cc in absurd (omega arith)
  at_word_lem r (Some w) h blame e = let same : r ≡ blame.refusal = cc in rw (← same) h

  at_start_lem : (start : ℕ) (r : Refusal) (test : Bool) → (test ≡ true → numbered_in block_numbers r ≡ true) → Blames (at_start start r test)
  unfolding at_start
  at_start_lem start r false h blame e = let z : ◌≡◌ {A = ℕ} 0 1 = cc in absurd (omega arith)
  at_start_lem start r true h blame e = let same : r ≡ blame.refusal = cc in rw (← same) (h refl)

  -- the first that blames, where the later tests may count on the earlier ones
  next : (o : Option Blame) (os : List (Option Blame)) → Blames o → (o ≡ None → Blames (first_of os)) → Blames (first_of (o ∷ os))
  unfolding first_of
  next None os h later = later refl
  next (Some blame) os h later = h

  no_blame : Blames (first_of [])
  unfolding first_of
  no_blame blame e = let z : ◌≡◌ {A = ℕ} 0 1 = cc in absurd (omega arith)

  words_blame :
      (calls : Calls) (room : ℕ) (s : State) (start : ℕ) → Reachable bed s
      → (ws : List Word) (b : Said) → said_by (machine_of bed) s.modes ws ≡ b
      → Blames (first_of (blames (machine_of bed) calls room s start ws b))
  unfolding blames any
  words_blame calls room s start state ws b e =
      next _ _ (at_word_lem CannotExecute _ refl) (λ _.
      next _ _ (at_word_lem AddressUndefined _ refl) (λ _.
      next _ _ (at_word_lem BadParameter _ refl) (λ value.
      next _ _ (at_start_lem start ParameterUndefined _ (λ _. refl)) (λ _.
      next _ _ (at_start_lem start NumberNotFound _ (λ _. refl)) (λ _.
      next _ _ (at_start_lem start NestOver _ (λ _. refl)) (λ _.
      next _ _ (at_start_lem start CannotExecute _ (λ _. refl)) (λ _.
      next _ _ (at_start_lem start BadParameter _ (λ _. refl)) (λ _.
      next _ _ (at_start_lem start CentreTooFar _ (λ far. absurd (true≢false (sym far ∙ ap not (fits_all s state ws b e value))))) (λ _.
      next _ _ (at_start_lem start LeavesTravel _ (λ _. refl)) (λ _.
      next _ [] (at_start_lem start NoRoom _ (λ _. refl)) (λ _. no_blame)))))))))))

  -- a refused block has one of the numbers
  pub exec_number :
      (calls : Calls) (room : ℕ) (s : State) (start at : ℕ) (text : List ℕ) (blame : Blame) → Reachable bed s
      → exec (machine_of bed) calls room s start at text ≡ refused blame → numbered_in block_numbers blame.refusal ≡ true
  unfolding exec exec_words judged unless blames any first_of
  exec_number calls room s start at text blame state = go (words_of at text)
    where
      by :
          (o : Option Blame) (v : Verdict) {t : State} {c : Control} {made : List Record}
          → v ≡ accepted t c made → Blames o → unless o v ≡ refused blame
          → numbered_in block_numbers blame.refusal ≡ true
      by None v a h e = let z : ◌≡◌ {A = ℕ} 0 1 = cc in absurd (omega arith)
      by (Some other) v a h e = h blame (cc)

      go : (w : Words) → exec_words (machine_of bed) calls room s start w ≡ refused blame → numbered_in block_numbers blame.refusal ≡ true
      go (bad_at bad) e = let same : Unreadable ≡ blame.refusal = cc in rw (← same)
      go (these ws) e =
          by (first_of (blames (machine_of bed) calls room s start ws (said_by (machine_of bed) s.modes ws))) _ refl
          (words_blame calls room s start state ws (said_by (machine_of bed) s.modes ws) refl) e
