-- Numbers as text, as the functions write them. Assumes nothing.
use Rattle.terms.proofs.Common.{ℕ, zero, suc, ◌+◌, ◌-◌, ◌/◌, ◌%◌, ◌≤◌, ◌<◌, ◌≡◌, refl, ap, ◌≢◌, true, false, List, [], ◌∷◌, ◌++◌, arith, lt-ltb, le-ltb, ltb-true, ℤ, pos, negsuc, lt_z}
use Rattle.terms.specs.Terms.{bytes}
use Rattle.lengths.specs.{declared.Len.Len, Units.len, Serving.Apart, Serving.Counted}
use Rattle.svg.specs.Text.{Fills, digits, decimal, number}
use Rattle.svg.proofs.Filled.{fills_none}

pub digits_none : (l : List ℕ) (at k n : ℕ) → k ≡ 0 → Fills l at (digits k n) l at
unfolding digits
digits_none l at k n e = rw e (fills_none l at)

pub digits_last : (k n : ℕ) → k ≢ 0 → n < 10 → digits k n ≡ (48 + n) ∷ []
unfolding digits
digits_last zero n f h = absurd (f refl)
digits_last (suc k) n f h = rw (lt-ltb n 10 h)

pub digits_more : (k n : ℕ) → k ≢ 0 → 10 ≤ n → digits k n ≡ digits (k - 1) (n / 10) ++ (48 + n % 10) ∷ []
unfolding digits
digits_more zero n f h = absurd (f refl)
digits_more (suc k) n f h =
    let e : suc k - 1 ≡ k = omega arith in
    rw (le-ltb n 10 h, e)

-- how far a number is from 0 are its digits, after a minus where it is below
pub number_up : (z : ℤ) (none : Len) (d : ℕ) → Counted 0 none → Apart (len z) none d → lt_z z (pos 0) ≡ false → number z ≡ decimal d
unfolding number
number_up (pos n) none d h a e =
    let f : n ≡ d = omega (arith, a.sum, h.ups, h.downs) in
    ap decimal f
number_up (negsuc n) none d h a e = let z : ◌≡◌ {A = ℕ} 0 1 = cc in absurd (omega arith)

pub number_down :
    (z : ℤ) (none : Len) (d : ℕ) → Counted 0 none → Apart (len z) none d → lt_z z (pos 0) ≡ true → number z ≡ bytes "-" ++ decimal d
unfolding number
number_down (pos n) none d h a e = absurd (omega (arith, ltb-true n 0 e))
number_down (negsuc n) none d h a e =
    let f : suc n ≡ d = omega (arith, a.sum, h.ups, h.downs) in
    ap (λ (k : ℕ). bytes "-" ++ decimal k) f
