-- The judgement of a block's words, word by word: what the words that are left make of it is the same at every word. Assumes
-- nothing.
use Rattle.std.specs.Prelude.{if◌then◌else◌, Result, Ok, Err}
use Rattle.terms.proofs.Common.{ℕ, ◌+◌, ◌≤◌, ◌<◌, ◌≡◌, refl, sym, ◌∙◌, Bool, true, false, ◌&&◌, ◌||◌, Option, None, Some, List, [], ◌∷◌, arith, add-one, eqb, length, take, drop, get_or, drop_of_length-le, length-take-le, drop-cons, get_or-take, ne_eqb}
use Rattle.terms.specs.Terms.{byte, bytes, first}
use Rattle.codes.proofs.Tables.{Others}
use Rattle.words.specs.{declared.Word.Word, declared.Use.Use, declared.Values.Values, Values.no_values}
use Rattle.settings.specs.declared.Modes.{Modes}
use Rattle.letters.specs.declared.{Speeds.Speeds, BlockCode.BlockCode, Unfit.Unfit, Unfit.TheVariants.Unused, Unfit.TheVariants.Bad}
use Rattle.letters.specs.Letters.{use_of, is_nothing, is_unused, first_unused, word_value, is_bad, first_bad_value, with_value, values_after}
use Rattle.letters.specs.Judging.{unused_or, bad_or, judged_by, value_next, judged_next, judged_all, judged_after}
use Rattle.lengths.specs.declared.Len.{Len}

-- a letter that is none of a value's
pub no_value : (v : Values) (g : Option Len) (n : ℕ) → Others n (bytes "SFPRKJIZYX") → v ≡ with_value v n g
unfolding with_value
no_value v g n h =
    rw (
      ne_eqb n (byte "S") h.1,
      ne_eqb n (byte "F") h.0.1,
      ne_eqb n (byte "P") h.0.0.1,
      ne_eqb n (byte "R") h.0.0.0.1,
      ne_eqb n (byte "K") h.0.0.0.0.1,
      ne_eqb n (byte "J") h.0.0.0.0.0.1,
      ne_eqb n (byte "I") h.0.0.0.0.0.0.1,
      ne_eqb n (byte "Z") h.0.0.0.0.0.0.0.1,
      ne_eqb n (byte "Y") h.0.0.0.0.0.0.0.0.1,
      ne_eqb n (byte "X") h.0.0.0.0.0.0.0.0.0.1,
    )

module _ (speeds : Speeds) (m : Modes) (code : BlockCode) where
  -- ---- the first bad value, and the values

  stays_bad : (ws : List Word) (e : Unfit) → judged_all speeds m code (Err e) ws ≡ Err e
  unfolding judged_all judged_next
  stays_bad [] e = refl
  stays_bad (w ∷ ws) e = stays_bad ws e

  abbrev by_values : List Word → Values → Result Values Unfit
  by_values ws v = bad_or (first_bad_value speeds m code ws) (values_after v speeds m code ws)

  value_next_lem :
      (v : Values) (w : Word) (ws : List Word) (x : Option Len)
      → ((u : Values) → judged_all speeds m code (Ok u) ws ≡ by_values ws u)
      → judged_all speeds m code (value_next v w x) ws
      ≡ bad_or (if is_bad x then Some w else first_bad_value speeds m code ws)
      (values_after (with_value v w.letter x) speeds m code ws)
  unfolding value_next bad_or is_bad
  value_next_lem v w ws (Some x) rest = rest (with_value v w.letter (Some x))
  value_next_lem v w ws None rest = stays_bad ws (Bad w.at)

  all_values : (ws : List Word) (v : Values) → judged_all speeds m code (Ok v) ws ≡ by_values ws v
  unfolding judged_all judged_next bad_or first_bad_value first values_after
  all_values [] v = refl
  all_values (w ∷ ws) v = value_next_lem v w ws (word_value speeds m code w) (all_values ws)

  -- ---- one word more, of a block's first words

  module _ (centred : Bool) (words : List Word) (count : ℕ) where
    abbrev ws : List Word
    ws = take count words

    -- what is left from place i on gives the judgement of all
    abbrev pub LeftFrom : Result Values Unfit → ℕ → Type 0
    LeftFrom passed i = judged_by speeds m code centred ws ≡ judged_after speeds m code centred passed (drop i ws)

    pub judge_start : (v : Values) → v ≡ no_values → LeftFrom (Ok v) 0
    unfolding judged_by judged_after
    judge_start v e = rw (e, all_values ws no_values)

    pub judge_done :
        (passed : Result Values Unfit) (i : ℕ) → count ≤ length words → count ≤ i → LeftFrom passed i
        → passed ≡ judged_by speeds m code centred ws
    unfolding judged_after judged_all first_unused first unused_or
    judge_done passed i few h left =
        let past : length ws ≤ i = omega (arith, length-take-le count words few) in
        sym (left ∙ rw (drop_of_length-le ws past))

    module _
        (passed : Result Values Unfit) (i : ℕ) (w : Word) (is : get_or words i w ≡ w) (few : count ≤ length words) (h : i < count) (left : LeftFrom passed i)
      where
        next : drop i ws ≡ w ∷ drop (i + 1) ws
        next = rw (add-one, drop-cons ws i w (omega (arith, length-take-le count words few)), get_or-take count words i w h, is)

        module _
            (u : Use) (t : Bool) (meaning : u ≡ use_of code m.plane w.letter)
            (test : t ≡ (is_nothing u || centred && eqb w.letter (byte "R")))
          where
            pub judge_unused : t ≡ true → Err (Unused w.at) ≡ judged_by speeds m code centred ws
            unfolding judged_after first_unused is_unused first unused_or
            judge_unused e = sym (left ∙ rw (next, ← meaning, ← test, e))

            pub judge_past :
                (new : Result Values Unfit) → t ≡ false → new ≡ judged_next speeds m code passed w → LeftFrom new (i + 1)
            unfolding judged_after judged_all first_unused is_unused first
            judge_past new e f = left ∙ rw (next, ← meaning, ← test, e, f)
