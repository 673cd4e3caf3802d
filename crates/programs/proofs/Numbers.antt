-- The number of an opening, from its digits and what follows them.
use Rattle.terms.proofs.Common.{ℕ, ◌+◌, ◌≤◌, ◌<◌, ◌≡◌, ◌∙◌, ap, Bool, true, false, None, Some, ◌&&◌, List, arith, le-leb, lt-leb, length, drop, length-drop, drop-drop}
use Rattle.terms.specs.Terms.{from_to}
use Rattle.lines.{specs.Blocks.text_from, specs.Gaps.only_gaps, proofs.Laws.text_drop, proofs.Laws.text_length}
use Rattle.words.{specs.Numbers.digits_after, proofs.Numbers.run_short}
use Rattle.programs.specs.{Openings.number_after_o, Openings.figures_of, Found.IsDigits, declared.Digits.Digits}

-- the test of an opening's number: n digits of the value v, and what follows them
abbrev test : ℕ → ℕ → Bool → Bool
test n v rest = from_to 1 8 n && from_to 1 9_999 v && rest

module _ (n v : ℕ) (more : Bool) where
  too_few : n < 1 → test n v more ≡ false
  too_few h = rw (lt-leb 1 n h)

  too_many : 8 < n → test n v more ≡ false
  too_many h = let k : 1 ≤ n = omega arith in rw (le-leb 1 n k, lt-leb n 8 h)

  module _ (low : 1 ≤ n) (high : n ≤ 8) where
    too_low : v < 1 → test n v more ≡ false
    too_low h = rw (le-leb 1 n low, le-leb n 8 high, lt-leb 1 v h)

    too_high : 9999 < v → test n v more ≡ false
    too_high h = let k : 1 ≤ v = omega arith in rw (le-leb 1 n low, le-leb n 8 high, le-leb 1 v k, lt-leb v 9999 h)

    as_rest : 1 ≤ v → v ≤ 9999 → test n v more ≡ more
    as_rest h k = rw (le-leb 1 n low, le-leb n 8 high, le-leb 1 v h, le-leb v 9999 k)

-- what is tested of a text
abbrev digits : List ℕ → ℕ
digits text = length (figures_of text)

abbrev worth : List ℕ → ℕ
worth text = digits_after 0 (figures_of text)

abbrev rest : List ℕ → Bool
rest text = only_gaps (drop (digits text) text)

refused : (text : List ℕ) → test (digits text) (worth text) (rest text) ≡ false → number_after_o text ≡ None
unfolding number_after_o
refused text e = rw e

pub opening_many : (text : List ℕ) → 8 < length (figures_of text) → number_after_o text ≡ None
opening_many text h = refused text (too_many (digits text) (worth text) (rest text) h)

module _ {text : List ℕ} {d : Digits} (is : IsDigits text d) where
  pub opening_few : d.count ≡ 0 → number_after_o text ≡ None
  opening_few e = refused text (too_few (digits text) (worth text) (rest text) (omega (arith, is.count)))

  module _ (some : d.count ≡ 0 → ⊥) where
    low : 1 ≤ length (figures_of text)
    low = omega (arith, is.count)

    high : length (figures_of text) ≤ 8
    high = omega (arith, is.few, is.count)

    pub opening_zero : d.value ≡ 0 → number_after_o text ≡ None
    opening_zero e = refused text (too_low (digits text) (worth text) (rest text) low high (omega (arith, is.value)))

    pub opening_large : 9999 < d.value → number_after_o text ≡ None
    opening_large h = refused text (too_high (digits text) (worth text) (rest text) low high (omega (arith, is.value)))

    module _ (one : d.value ≡ 0 → ⊥) (fits : d.value ≤ 9999) where
      as_gaps : test (digits text) (worth text) (rest text) ≡ only_gaps (drop d.count text)
      as_gaps =
          as_rest (digits text) (worth text) (rest text) low high (omega (arith, is.value)) (omega (arith, is.value))
          ∙ ap (λ (k : ℕ). only_gaps (drop k text)) is.count

      pub opening_more : only_gaps (drop d.count text) ≡ false → number_after_o text ≡ None
      opening_more e = refused text (as_gaps ∙ e)

      pub opening_number : only_gaps (drop d.count text) ≡ true → number_after_o text ≡ Some d.value
      unfolding number_after_o
      opening_number e = rw (as_gaps ∙ e) (ap Some (is.value))

-- the digits lie inside the data, and the text after them is the text from there
module _ (l : List ℕ) (at : ℕ) (d : Digits) (inside : at ≤ length l) (is : IsDigits (text_from (drop at l)) d) where
  in_text : d.count ≤ length (text_from (drop at l))
  in_text = omega (arith, is.count, run_short (λ b. from_to 48 57 b) (text_from (drop at l)))

  pub digits_inside : at + d.count ≤ length l
  digits_inside = omega (arith, in_text, text_length (drop at l), length-drop at l)

  pub after_digits : drop d.count (text_from (drop at l)) ≡ text_from (drop (at + d.count) l)
  after_digits = text_drop d.count (drop at l) in_text ∙ ap text_from (drop-drop d.count at l)
