-- "Numbers compare by value: `O1` and `O0001` are the same."
use Rattle.std.specs.Prelude.{if◌then◌else◌}
use Rattle.terms.proofs.Common.{ℕ, zero, suc, ◌≤◌, ◌<◌, ◌≡◌, refl, sym, ◌∙◌, ap, Bool, true, false, None, Some, ◌&&◌, List, ◌∷◌, ◌++◌, arith, le-leb, length, drop, replicate}
use Rattle.terms.specs.Terms.{byte, from_to}
use Rattle.words.{specs.Numbers.run, specs.Numbers.digits_after, proofs.Numbers.leading_zero}
use Rattle.lines.specs.Gaps.{only_gaps}
use Rattle.programs.specs.{Openings.number_after_o, Openings.figures_of}

-- what an opening's number says of its digits' value and of what follows them
record Opened (bs : List ℕ) (n : ℕ) : Type 0 where
  fits : from_to 1 9_999 (digits_after 0 (figures_of bs)) ≡ true
  rest : only_gaps (drop (length (figures_of bs)) bs) ≡ true
  is : digits_after 0 (figures_of bs) ≡ n

opened : (bs : List ℕ) (n : ℕ) → number_after_o bs ≡ Some n → Opened bs n
unfolding number_after_o
opened bs n e =
    go (from_to 1 8 (length (figures_of bs))) (from_to 1 9_999 (digits_after 0 (figures_of bs))) (only_gaps (drop (length (figures_of bs)) bs)) refl refl e
  where
    go :
        (few fits rest : Bool) → from_to 1 9_999 (digits_after 0 (figures_of bs)) ≡ fits
        → only_gaps (drop (length (figures_of bs)) bs) ≡ rest
        → (if few && fits && rest then Some (digits_after 0 (figures_of bs)) else None) ≡ Some n → Opened bs n
    go true true true g h i = record { fits = g; rest = h; is = cc }
    go true true false g h i = let never : ◌≡◌ {A = ℕ} 0 1 = cc in absurd (omega arith)
    go true false rest g h i = let never : ◌≡◌ {A = ℕ} 0 1 = cc in absurd (omega arith)
    go false fits rest g h i = let never : ◌≡◌ {A = ℕ} 0 1 = cc in absurd (omega arith)

-- one zero more in front, where it is not the ninth digit
pub zero_front : (bs : List ℕ) (n : ℕ) → number_after_o bs ≡ Some n → length (figures_of bs) < 8 → number_after_o (byte "0" ∷ bs) ≡ Some n
unfolding number_after_o run
zero_front bs n e h =
    let o = opened bs n e in
    let low : 1 ≤ suc (length (figures_of bs)) = omega arith in
    let high : suc (length (figures_of bs)) ≤ 8 = omega arith in
    rw (leading_zero (figures_of bs), le-leb 1 (suc (length (figures_of bs))) low, le-leb (suc (length (figures_of bs))) 8 high, o.fits, o.rest)
    (ap Some o.is)

-- zeros in front change the value of no digits
zeros_worth : (k : ℕ) (bs : List ℕ) → digits_after 0 (figures_of (replicate k (byte "0") ++ bs)) ≡ digits_after 0 (figures_of bs)
unfolding run
zeros_worth zero bs = refl
zeros_worth (suc k) bs = leading_zero (figures_of (replicate k (byte "0") ++ bs)) ∙ zeros_worth k bs

-- two openings whose digits differ only by zeros in front have the same number
pub same_number :
    (k m n : ℕ) (bs : List ℕ) → number_after_o (replicate k (byte "0") ++ bs) ≡ Some m → number_after_o bs ≡ Some n → m ≡ n
same_number k m n bs e f = sym (opened (replicate k (byte "0") ++ bs) m e).is ∙ zeros_worth k bs ∙ (opened bs n f).is
