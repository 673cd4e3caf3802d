-- A block that calls makes no record, so that after 5 and 6 nothing can refuse it: its call may be tested last, where it is followed.
-- Assumes nothing.
use Rattle.std.specs.Prelude.{if◌then◌else◌, is_some}
use Rattle.terms.proofs.Common.{ℕ, ◌≡◌, refl, sym, ◌∙◌, ap, Bool, true, false, not, ◌&&◌, and-false, Option, None, Some, List, [], ◌∷◌, ◌++◌, append-nil, arith, eqb-true, le-ltb, eqb, ltb}
use Rattle.terms.{specs.Terms.first, specs.Terms.first_of, specs.Terms.all, specs.Terms.lookup, proofs.Laws.either_left}
use Rattle.refusals.specs.declared.Refusal.{Refusal}
use Rattle.refusals.specs.declared.Refusal.TheVariants.{BadParameter, AddressUndefined, ParameterUndefined, CannotExecute, NumberNotFound, NestOver, LeavesTravel, NoRoom, CentreTooFar}
use Rattle.refusals.specs.declared.Blame.{Blame}
use Rattle.codes.specs.{declared.Misc.Misc, declared.Plane.Plane, Codes.misc_number, Codes.is_m, Codes.ends_program}
use Rattle.codes.specs.declared.Misc.TheVariants.{M00, M02, M03, M05, M30, M98, M99, Other}
use Rattle.words.specs.{declared.Word.Word, declared.Values.Values, Values.no_values, Words.Words, Words.these, Words.bad_at, Words.words_of}
use Rattle.records.specs.{declared.Record.Record, Layout.room_of, Path.path_stays_in}
use Rattle.settings.specs.declared.{Modes.Modes, State.State}
use Rattle.letters.specs.declared.{BlockCode.BlockCode, BlockCode.TheVariants.Calling, Speeds.Speeds}
use Rattle.letters.specs.Letters.{first_that_may_not, has_centre, use_of, letters_of, is_nothing, is_unused, first_unused, first_bad_value, misc_of_block, modes_in, code_under, block_code, word_value, with_value, values_after, values_of}
use Rattle.blocks.specs.{Machine.Machine, Motions.moves_of, declared.Said.Said, declared.Control.Control, Calling.freely, Calling.called}
use Rattle.blocks.specs.Exec.{Calls, in_main, Verdict, accepted, said_by, spindle_records, moves_in, last_records, made_by, settled, control_of, call_to, unknown_call, too_deep, lacks_parameter, drills, cannot_drill, at_word, at_start, blames, unless, judged, exec_words, exec}
use Rattle.blocks.specs.declared.Control.TheVariants.{On, Call, Back, Stop}
use Rattle.blocks.proofs.Accepting.{AllNone, all_none, past_all, word_none}

-- ---- a block that calls has no S, and makes no record

-- "M98 P: .. its block has only N and P besides"
no_s : (plane : Plane) (letter : ℕ) → is_nothing (use_of Calling plane letter) ≡ false → eqb letter 83 ≡ false
unfolding use_of letters_of lookup is_nothing
no_s plane letter e = go (eqb letter 83) refl
  where
    go : (t : Bool) → eqb letter 83 ≡ t → t ≡ false
    go false f = refl
    go true f =
        let is : letter ≡ 83 = eqb-true letter 83 f in
        let z : true ≡ false = rw is at e in
        z

-- a test of the words that none fails
pub none_first :
    {A : Type 0} (test : A → Bool) (a : A) (l : List A) → first test (a ∷ l) ≡ None → (test a ≡ false) × (first test l ≡ None)
unfolding first
none_first test a l e = go (test a) e
  where
    go : (t : Bool) → (if t then Some a else first test l) ≡ None → (t ≡ false) × (first test l ≡ None)
    go true f = let no : ◌≡◌ {A = ℕ} 0 1 = cc in absurd (omega arith)
    go false f = (refl, f)

speed_missing :
    (plane : Plane) (centred : Bool) (speeds : Speeds) (m : Modes) (v : Values) (ws : List Word)
    → first (is_unused Calling plane centred) ws ≡ None → (values_after v speeds m Calling ws).s ≡ v.s
unfolding values_after with_value is_unused
speed_missing plane centred speeds m v [] e = refl
speed_missing plane centred speeds m v (w ∷ ws) e =
    let h = none_first (is_unused Calling plane centred) w ws e in
    let other = no_s plane w.letter (either_left (is_nothing (use_of Calling plane w.letter)) (centred && eqb w.letter 82) h.0) in
    speed_missing plane centred speeds m (with_value v w.letter (word_value speeds m Calling w)) ws h.1 ∙ rw other

speed_off :
    (code : BlockCode) → code ≡ Calling → (plane : Plane) (centred : Bool) (speeds : Speeds) (m : Modes) (ws : List Word)
    → first_unused code plane centred ws ≡ None → is_some (values_of speeds m code ws).s ≡ false
unfolding first_unused
speed_off code e plane centred speeds m ws h =
    let none_is : first (is_unused Calling plane centred) ws ≡ None = rw e at h in
    rw e (ap is_some (speed_missing plane centred speeds m no_values ws none_is))

m98_is : (m : Misc) → is_m 98 m ≡ true → m ≡ M98
unfolding is_m misc_number
m98_is M00 e = let no : ◌≡◌ {A = ℕ} 0 1 = cc in absurd (omega arith)
m98_is M02 e = let no : ◌≡◌ {A = ℕ} 0 1 = cc in absurd (omega arith)
m98_is M03 e = let no : ◌≡◌ {A = ℕ} 0 1 = cc in absurd (omega arith)
m98_is M05 e = let no : ◌≡◌ {A = ℕ} 0 1 = cc in absurd (omega arith)
m98_is M30 e = let no : ◌≡◌ {A = ℕ} 0 1 = cc in absurd (omega arith)
m98_is M98 e = refl
m98_is M99 e = let no : ◌≡◌ {A = ℕ} 0 1 = cc in absurd (omega arith)
m98_is Other e = let no : ◌≡◌ {A = ℕ} 0 1 = cc in absurd (omega arith)

module _ (machine : Machine) (s : State) (b : Said) (misc : b.misc ≡ M98) (code : b.code ≡ Calling) (speed : is_some b.values.s ≡ false) where
  made_none : made_by machine s b ≡ []
  unfolding made_by spindle_records moves_in moves_of last_records is_m misc_number
  made_none = rw (misc, code, speed, and-false s.turning)

  -- after 5 and 6 nothing refuses such a block
  late_none :
      (room start : ℕ)
      → AllNone
      (at_start start CannotExecute (cannot_drill s b) ∷ at_start start BadParameter (not (moves_in machine s b).sound)
      ∷ at_start start CentreTooFar (not (all machine.fits (made_by machine s b)))
      ∷ at_start start LeavesTravel (not (path_stays_in machine.stays s.at (made_by machine s b)))
      ∷ at_start start NoRoom (ltb room (room_of (made_by machine s b))) ∷ [])
  unfolding at_start cannot_drill drills moves_in moves_of all path_stays_in room_of
  late_none room start =
      let made = made_none in
      let none_over = le-ltb room 0 (omega arith) in
      (rw code, (rw code, (rw made, (rw made, (rw (made, none_over), tt)))))

clear : (start : ℕ) (refusal : Refusal) (t : Bool) → t ≡ false → at_start start refusal t ≡ None
unfolding at_start
clear start refusal t e = rw e

-- ---- two tests out of the middle of the order, tested last

without : (early late : List (Option Blame)) → first_of (early ++ None ∷ None ∷ late) ≡ first_of (early ++ late)
unfolding first_of
without [] late = refl
without (None ∷ os) late = without os late
without (Some blame ∷ os) late = refl

alone : (x y : Option Blame) (late : List (Option Blame)) → first_of late ≡ None → first_of (x ∷ y ∷ late) ≡ first_of (x ∷ y ∷ [])
unfolding first_of
alone None None late e = e
alone None (Some blame) late e = refl
alone (Some blame) y late e = refl

module _ (calls : Calls) (start : ℕ) (s : State) (control : Control) (made : List Record) where
  abbrev done : Verdict
  done = accepted s control made

  abbrev unknown : Option Blame
  unknown = at_start start NumberNotFound (unknown_call calls (call_to control))

  abbrev deep : Option Blame
  deep = at_start start NestOver (too_deep calls (call_to control))

  tested_last :
      (early late : List (Option Blame)) → (AllNone early → AllNone late)
      → unless (first_of (early ++ unknown ∷ deep ∷ late)) done ≡ called calls start (unless (first_of (early ++ late)) done)
  unfolding first_of unless called
  tested_last [] late h =
      let e : first_of late ≡ None = ap first_of (sym (append-nil late)) ∙ past_all late [] (h tt) in
      ap (λ (o : Option Blame). unless o done) (alone unknown deep late e) ∙ rw e
  tested_last (None ∷ os) late h = tested_last os late (λ a. h (refl, a))
  tested_last (Some blame ∷ os) late h = refl

  -- a block that does not call
  not_called : call_to control ≡ None → (o : Option Blame) → unless o done ≡ called calls start (unless o done)
  unfolding unless called first_of at_start unknown_call too_deep
  not_called e None = rw e
  not_called e (Some blame) = refl

  not_tested :
      (early late : List (Option Blame)) → call_to control ≡ None
      → unless (first_of (early ++ unknown ∷ deep ∷ late)) done ≡ called calls start (unless (first_of (early ++ late)) done)
  unfolding unknown_call too_deep
  not_tested early late e =
      let five = clear start NumberNotFound (unknown_call calls (call_to control)) (rw e) in
      let six = clear start NestOver (too_deep calls (call_to control)) (rw e) in
      rw (five, six, without early late) (not_called e (first_of (early ++ late)))

-- ---- the verdict on a block

-- a free call passes both
module _ (left : ℕ) where
  pub free_known : (o : Option ℕ) → unknown_call (freely left) o ≡ false
  unfolding unknown_call freely
  free_known None = refl
  free_known (Some n) = refl

  pub free_level : (o : Option ℕ) → too_deep (freely left) o ≡ false
  unfolding too_deep freely
  free_level None = refl
  free_level (Some n) = elim (eqb left 4) as (λ t. eqb (if t then 4 else 1) 0 ≡ false) [ true ↦ refl | false ↦ refl ]

  pub free_main : in_main (freely left) ≡ eqb left 4
  unfolding freely
  free_main = elim (eqb left 4) as (λ t. eqb (if t then 4 else 1) 4 ≡ t) [ true ↦ refl | false ↦ refl ]

calls_none : (b : Said) → is_m 98 b.misc ≡ false → call_to (control_of b) ≡ None
unfolding control_of call_to
calls_none b e = rw e (go (is_m 99 b.misc) (ends_program b.misc))
  where
    go : (t u : Bool) → call_to (if t then Back else (if u then Stop else On)) ≡ None
    go true u = refl
    go false true = refl
    go false false = refl

module _ (machine : Machine) (calls : Calls) (room : ℕ) (s : State) (start : ℕ) where
  module _ (ws : List Word) where
    abbrev b : Said
    b = said_by machine s.modes ws

    abbrev early : Bool → List (Option Blame)
    early main =
        at_word CannotExecute (first_that_may_not main [] ws)
        ∷ at_word AddressUndefined (first_unused b.code b.modes.plane (has_centre b.code b.modes.plane ws) ws)
        ∷ at_word BadParameter (first_bad_value machine.speeds b.modes b.code ws)
        ∷ at_start start ParameterUndefined (lacks_parameter b.code b.values) ∷ []

    abbrev late : List (Option Blame)
    late =
        at_start start CannotExecute (cannot_drill s b) ∷ at_start start BadParameter (not (moves_in machine s b).sound)
        ∷ at_start start CentreTooFar (not (all machine.fits (made_by machine s b)))
        ∷ at_start start LeavesTravel (not (path_stays_in machine.stays s.at (made_by machine s b)))
        ∷ at_start start NoRoom (ltb room (room_of (made_by machine s b))) ∷ []

    abbrev end : Verdict
    end = accepted (settled machine s b) (control_of b) (made_by machine s b)

    judged_free : judged machine (freely calls.left) room s start ws b ≡ unless (first_of (early (in_main calls) ++ late)) end
    unfolding judged blames
    judged_free =
        let o = call_to (control_of b) in
        let five = clear start NumberNotFound (unknown_call (freely calls.left) o) (free_known calls.left o) in
        let six = clear start NestOver (too_deep (freely calls.left) o) (free_level calls.left o) in
        let main = free_main calls.left in
        rw (five, six, main) (ap (λ (o : Option Blame). unless o end) (without (early (in_main calls)) late))

    -- what is known of a block that calls, once the tests before 5 have passed
    module _ (e : is_m 98 b.misc ≡ true) (h : AllNone (early (in_main calls))) where
      misc_is : b.misc ≡ M98
      misc_is = m98_is b.misc e

      code_is : b.code ≡ Calling
      unfolding said_by block_code code_under is_m misc_number
      code_is = let misc : misc_of_block ws ≡ M98 = misc_is in rw misc

      speed_is : is_some b.values.s ≡ false
      unfolding said_by
      speed_is =
          let m = modes_in s.modes ws in
          let centred = has_centre (block_code m ws) m.plane ws in
          let used = word_none AddressUndefined (first_unused (block_code m ws) m.plane centred ws) h.1.0 in
          speed_off (block_code m ws) code_is m.plane centred machine.speeds m ws used

      m98_makes_none : made_by machine s b ≡ []
      m98_makes_none = made_none machine s b misc_is code_is speed_is

      late_passes : AllNone late
      late_passes = late_none machine s b misc_is code_is speed_is room start

    judged_called : judged machine calls room s start ws b ≡ called calls start (judged machine (freely calls.left) room s start ws b)
    unfolding judged blames
    judged_called = rw judged_free (go (is_m 98 b.misc) refl)
      where
        go :
            (t : Bool) → is_m 98 b.misc ≡ t
            → judged machine calls room s start ws b ≡ called calls start (unless (first_of (early (in_main calls) ++ late)) end)
        go true e = tested_last calls start (settled machine s b) (control_of b) (made_by machine s b) (early (in_main calls)) late (late_passes e)
        go false e = not_tested calls start (settled machine s b) (control_of b) (made_by machine s b) (early (in_main calls)) late (calls_none b e)

  words_called : (words : Words) → exec_words machine calls room s start words ≡ called calls start (exec_words machine (freely calls.left) room s start words)
  unfolding exec_words called
  words_called (these ws) = judged_called ws
  words_called (bad_at at) = refl

  -- the verdict on a block is that without its call, and then the call's
  pub exec_called :
      (at : ℕ) (text : List ℕ) → exec machine calls room s start at text ≡ called calls start (exec machine (freely calls.left) room s start at text)
  unfolding exec
  exec_called at text = words_called (words_of at text)

  -- ---- a block that calls makes no record

  calls_m98 : (b : Said) (n : ℕ) → control_of b ≡ Call n → is_m 98 b.misc ≡ true
  unfolding call_to
  calls_m98 b n e = go (is_m 98 b.misc) refl
    where
      go : (t : Bool) → is_m 98 b.misc ≡ t → t ≡ true
      go true f = refl
      go false f =
          let no : Some n ≡ None = ap call_to (sym e) ∙ calls_none b f in
          let z : ◌≡◌ {A = ℕ} 0 1 = cc in
          absurd (omega arith)

  words_make_none :
      (words : Words) (n : ℕ) (after : State) (made : List Record)
      → exec_words machine calls room s start words ≡ accepted after (Call n) made → made ≡ []
  unfolding exec_words judged unless blames
  words_make_none (bad_at at) n after made e = let z : ◌≡◌ {A = ℕ} 0 1 = cc in absurd (omega arith)
  words_make_none (these ws) n after made e = go (first_of (blames machine calls room s start ws (said_by machine s.modes ws))) refl e
    where
      go :
          (o : Option Blame) → first_of (blames machine calls room s start ws (b ws)) ≡ o
          → unless o (accepted (settled machine s (b ws)) (control_of (b ws)) (made_by machine s (b ws))) ≡ accepted after (Call n) made → made ≡ []
      go None f g =
          let control : control_of (b ws) ≡ Call n = cc in
          let all_of : made ≡ made_by machine s (b ws) = cc in
          let passed = all_none (blames machine calls room s start ws (b ws)) f in
          all_of ∙ m98_makes_none ws (calls_m98 (b ws) n control) (passed.0, (passed.1.0, (passed.1.1.0, (passed.1.1.1.0, tt))))
      go (Some blame) f g = let z : ◌≡◌ {A = ℕ} 0 1 = cc in absurd (omega arith)

  pub exec_makes_none :
      (at : ℕ) (text : List ℕ) (n : ℕ) (after : State) (made : List Record)
      → exec machine calls room s start at text ≡ accepted after (Call n) made → made ≡ []
  unfolding exec
  exec_makes_none at text n after made e = words_make_none (words_of at text) n after made e
