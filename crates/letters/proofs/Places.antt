-- A word's value put at its letter's place, and the judgement of the words so far. Assumes nothing.
use Rattle.words.specs.Values.{worth}
use Rattle.std.specs.Prelude.{if◌then◌else◌, Result, Ok, Err}
use Rattle.terms.proofs.Common.{ℕ, ◌+◌, ◌≤◌, ◌<◌, ◌≡◌, refl, ap, ◌∙◌, fun_ext, Bool, true, false, ◌&&◌, ◌||◌, Option, None, Some, List, arith, eqb, length, take, get_or, set, replicate, length-set, get_or-set_same, get_or-set_other, eqb-true, eqb-false}
use Rattle.terms.specs.Terms.{byte, bytes}
use Rattle.codes.proofs.Tables.{Others}
use Rattle.lengths.specs.declared.Len.{Len}
use Rattle.words.specs.{declared.Word.Word, declared.Use.Use, declared.Values.Values, Values.value_of}
use Rattle.settings.specs.declared.Modes.{Modes}
use Rattle.letters.specs.declared.{Speeds.Speeds, BlockCode.BlockCode, Unfit.Unfit, Unfit.TheVariants.Bad}
use Rattle.letters.specs.{Judging.judged_by, Judging.value_next, Judging.judged_next, Places.values_by, Places.values_in, Places.IsPlace}
use Rattle.letters.specs.Letters.{use_of, is_nothing, word_value, with_value}
use Rattle.letters.proofs.Judging.{LeftFrom, no_value, judge_start, judge_past, judge_done}
use Rattle.std.specs.Option.{option_or}

-- ---- a value put at its letter's place

module _ (v : List (Option Len)) (z : Len) (k : ℕ) (g : k < length v) where
  given_put : (j : ℕ) → get_or (set v k (Some z)) j None ≡ (if eqb j k then Some z else get_or v j None)
  given_put j = go (eqb j k) refl
    where
      go : (t : Bool) → eqb j k ≡ t → get_or (set v k (Some z)) j None ≡ (if t then Some z else get_or v j None)
      go true e = rw (eqb-true j k e) (get_or-set_same v k (Some z) None g)
      go false e = get_or-set_other v k j (Some z) None (eqb-false j k e)

-- one of the values exchanged
abbrev exchanged : (ℕ → Option Len) → ℕ → Option Len → ℕ → Option Len
exchanged given k g j = if eqb j k then g else given j

-- the places of letters: to exchange the value there is to give it to the letter
pub place_by :
    (letter k : ℕ) → k < 11 → ((given : ℕ → Option Len) (g : Option Len) → values_by (exchanged given k g) ≡ with_value (values_by given) letter g)
    → IsPlace letter k
place_by letter k h same =
    record {
      inside = h;
      puts = λ v z e. ap values_by (fun_ext (given_put v z k (omega arith))) ∙ same (λ j. get_or v j None) (Some z);
    }

pub place_at : (key k : ℕ) {letter : ℕ} → letter ≡ key → IsPlace key k → IsPlace letter k
place_at key k e place = rw e place

pub place_none : (letter : ℕ) → Others letter (bytes "SFPRKJIZYX") → IsPlace letter 10
unfolding values_by
place_none letter h = place_by letter 10 (omega arith) (λ given g. no_value (values_by given) g letter h)

-- ---- the judgement so far

-- after a bad value the others no longer count
unfoldable pub so_far : Option ℕ → List (Option Len) → Result Values Unfit
so_far (Some place) v = Err (Bad place)
so_far None v = Ok (values_in v)

-- what is kept of the words passed, the one at place i being the next
pub record KeptValues
    (speeds : Speeds) (m : Modes) (code : BlockCode) (centred : Bool) (words : List Word) (count : ℕ)
    (v : List (Option Len)) (bad : Option ℕ) (i : ℕ) : Type 0
  where
    pub few : count ≤ length words
    pub values : length v ≡ 11
    pub left : LeftFrom speeds m code centred words count (so_far bad v) i

module _ (speeds : Speeds) (m : Modes) (code : BlockCode) (centred : Bool) (words : List Word) (count : ℕ) where
  pub kept_first :
      count ≤ length words → KeptValues speeds m code centred words count (replicate 11 None) None 0
  unfolding so_far values_by
  kept_first few =
      record {
        few = few;
        values = refl;
        left = judge_start speeds m code centred words count (values_in (replicate 11 None)) refl;
      }

  module _
      (v : List (Option Len)) (bad : Option ℕ) (i : ℕ)
      (kept : KeptValues speeds m code centred words count v bad i)
    where
      ended : count ≤ i → so_far bad v ≡ judged_by speeds m code centred (take count words)
      ended h = judge_done speeds m code centred words count (so_far bad v) i kept.few h kept.left

      pub ended_bad : (place : ℕ) → count ≤ i → bad ≡ Some place → Err (Bad place) ≡ judged_by speeds m code centred (take count words)
      unfolding so_far
      ended_bad place h e = rw e at (ended h)

      pub ended_fine : count ≤ i → bad ≡ None → (u : Values) → u ≡ values_in v → Ok u ≡ judged_by speeds m code centred (take count words)
      unfolding so_far
      ended_fine h e u f = rw f (rw e at (ended h))

      -- one word more that the block's code uses, by its value x
      module _
          (w : Word) (is : get_or words i w ≡ w) (h : i < count) (u : Use) (t : Bool)
          (meaning : u ≡ use_of code m.plane w.letter) (test : t ≡ (is_nothing u || centred && eqb w.letter (byte "R"))) (used : t ≡ false)
          (x : Option Len) (worth : x ≡ value_of m.unit speeds.lowest.v speeds.highest.v u w.number)
        where
          its_value : x ≡ word_value speeds m code w
          unfolding word_value
          its_value = worth ∙ rw meaning

          past : (new : Result Values Unfit) → new ≡ judged_next speeds m code (so_far bad v) w → LeftFrom speeds m code centred words count new (i + 1)
          past new e =
              judge_past speeds m code centred words count (so_far bad v) i w is kept.few h kept.left u t meaning test new used e

          none_next : (b : Option ℕ) → x ≡ None → so_far (option_or b (Some w.at)) v ≡ judged_next speeds m code (so_far b v) w
          unfolding so_far judged_next value_next
          none_next (Some place) e = refl
          none_next None e = rw (← its_value, e)

          pub past_bad : x ≡ None → KeptValues speeds m code centred words count v (option_or bad (Some w.at)) (i + 1)
          past_bad e =
              record {
                few = kept.few;
                values = kept.values;
                left = past (so_far (option_or bad (Some w.at)) v) (none_next bad e);
              }

          fit_next :
              (b : Option ℕ) (z : Len) (k : ℕ) → x ≡ Some z → IsPlace w.letter k
              → so_far b (set v k (Some z)) ≡ judged_next speeds m code (so_far b v) w
          unfolding so_far judged_next value_next
          fit_next (Some place) z k e p = refl
          fit_next None z k e p = rw (← its_value, e, p.puts v z kept.values)

          pub past_fit :
              (z : Len) (k : ℕ) → x ≡ Some z → IsPlace w.letter k
              → KeptValues speeds m code centred words count (set v k (Some z)) bad (i + 1)
          past_fit z k e p =
              record {
                few = kept.few;
                values = length-set v k (Some z) ∙ kept.values;
                left = past (so_far bad (set v k (Some z))) (fit_next bad z k e p);
              }
