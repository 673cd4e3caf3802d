-- Numbers are ordered as their signed squares are: so a number is compared with a multiple of a root (`RoundedDown` in
-- specs/Centres.antt). Every signed square stands with a natural factor, as it does there. Assumes nothing.
use Rattle.terms.proofs.Common.{ℕ, suc, ◌+◌, ◌*◌, ◌≤◌, ◌<◌, ◌≡◌, refl, ap, Bool, true, false, mul-le-mul, mul-le-mul_right, arith, ℤ, pos, negsuc, ◌*ℤ◌, le_z, lt_z}
use Rattle.lengths.{specs.View.over, specs.View.under, proofs.Laws.view, proofs.Laws.mul_bal}
use Rattle.centres.specs.Centres.{signed_square}

-- the signed square is over² − under², one of the two being 0
pub square_bal :
    (z : ℤ) (d : ℕ) → over (signed_square z *ℤ pos d) + under z * under z * d ≡ under (signed_square z *ℤ pos d) + over z * over z * d
unfolding signed_square
square_bal (pos n) d = omega arith
square_bal (negsuc n) d =
    let s = negsuc n *ℤ pos (suc n) in
    let e = mul_bal (negsuc n) (pos (suc n)) in
    omega (arith, mul_bal s (pos d), ap (λ (x : ℕ). x * d) e)

-- the larger of two numbers has the larger signed square
pub square_most : (a b : ℤ) (d : ℕ) → le_z a b ≡ true → le_z (signed_square a *ℤ pos d) (signed_square b *ℤ pos d) ≡ true
square_most (pos a) (pos b) d h =
    let g : a ≤ b = omega (arith, view) in
    omega (arith, view, square_bal (pos a) d, square_bal (pos b) d, mul-le-mul_right d (mul-le-mul g g))
square_most (pos a) (negsuc b) d h = omega (arith, view, h)
square_most (negsuc a) (pos b) d h = omega (arith, view, square_bal (negsuc a) d, square_bal (pos b) d)
square_most (negsuc a) (negsuc b) d h =
    let g : suc b ≤ suc a = omega (arith, view) in
    omega (arith, view, square_bal (negsuc a) d, square_bal (negsuc b) d, mul-le-mul_right d (mul-le-mul g g))

pub square_less : (a b : ℤ) (d : ℕ) → 0 < d → lt_z a b ≡ true → lt_z (signed_square a *ℤ pos d) (signed_square b *ℤ pos d) ≡ true
square_less (pos a) (pos b) d k h =
    let g : suc a ≤ b = omega (arith, view) in
    omega (arith, view, square_bal (pos a) d, square_bal (pos b) d, mul-le-mul_right d (mul-le-mul g g))
square_less (pos a) (negsuc b) d k h = omega (arith, view, h)
square_less (negsuc a) (pos b) d k h = omega (arith, view, square_bal (negsuc a) d, square_bal (pos b) d)
square_less (negsuc a) (negsuc b) d k h =
    let g : suc (suc b) ≤ suc a = omega (arith, view) in
    omega (arith, view, square_bal (negsuc a) d, square_bal (negsuc b) d, mul-le-mul_right d (mul-le-mul g g))

-- and the other way round
pub less_square : (a b : ℤ) (d : ℕ) → lt_z (signed_square a *ℤ pos d) (signed_square b *ℤ pos d) ≡ true → lt_z a b ≡ true
less_square a b d h = go (lt_z a b) refl
  where
    go : (t : Bool) → lt_z a b ≡ t → t ≡ true
    go true e = refl
    go false e = let g : le_z b a ≡ true = omega (arith, view) in absurd (omega (arith, view, h, square_most b a d g))

pub most_square : (a b : ℤ) (d : ℕ) → 0 < d → le_z (signed_square a *ℤ pos d) (signed_square b *ℤ pos d) ≡ true → le_z a b ≡ true
most_square a b d k h = go (le_z a b) refl
  where
    go : (t : Bool) → le_z a b ≡ t → t ≡ true
    go true e = refl
    go false e = let g : lt_z b a ≡ true = omega (arith, view) in absurd (omega (arith, view, h, square_less b a d k g))
