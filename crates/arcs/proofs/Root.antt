-- The root that the rules compute is the largest whole number whose square is not above, and there is only one such number.
use Rattle.terms.proofs.Common.{ℕ, zero, suc, ◌+◌, ◌-◌, ◌*◌, ◌/◌, ◌%◌, ◌^◌, ◌<◌, ◌≤◌, ◌≡◌, sym, ap, ◌∙◌, arith, pow-succ', mul-le-mul, not-le_of_lt, div-div-eq-div-mul, dec_le, dec_lt, le-leb, lt-leb}
use Rattle.arcs.specs.Root.{Root, next_root, root_below, root}

-- one step: from the root s of a quarter of q to the root of q
next_root_lem : (q s : ℕ) → Root (q / 4) s → Root q (next_root q s)
unfolding next_root
next_root_lem q s h =
    elim (dec_le ((2 * s + 1) * (2 * s + 1)) q) [
      | yes p ↦ rw (le-leb ((2 * s + 1) * (2 * s + 1)) q p) (omega (arith, h.largest))
      | no f ↦
          let g : q < (2 * s + 1) * (2 * s + 1) = omega (arith, f) in
          rw (lt-leb ((2 * s + 1) * (2 * s + 1)) q g) (omega (arith, h.not_above))
    ]

pub root_below_lem : (k q : ℕ) → q < 4 ^ k → Root q (root_below k q)
unfolding root_below
root_below_lem zero q h = omega arith
root_below_lem (suc k) q h =
    next_root_lem q (root_below k (q / 4)) (root_below_lem k (q / 4) (omega (arith, rw (pow-succ' 4 k) at h)))

pub root_is : (q : ℕ) → q < 2 ^ 64 → Root q (root q)
root_is q h = root_below_lem 32 q h

-- a number whose square is below another's square is below it
pub square_lt : (r t : ℕ) → r * r < t * t → r < t
square_lt r t h =
    elim (dec_lt r t)
    [ yes p ↦ p | no f ↦ let g : t ≤ r = omega (arith, f) in absurd (not-le_of_lt h (mul-le-mul g g)) ]

pub root_one : {q r s : ℕ} → Root q r → Root q s → r ≡ s
root_one {q} {r} {s} f g =
    let a = square_lt r (s + 1) (omega (arith, f.not_above, g.largest)) in
    let b = square_lt s (r + 1) (omega (arith, g.not_above, f.largest)) in
    omega (arith, a, b)

-- ---- the method by hand, two binary digits at a time

-- what is reached when the digits of h have been brought down: their root, and what is left of h above its square
pub record Brought (h r rest : ℕ) : Type 0 where
  pub is_root : Root h r
  pub left : rest + r * r ≡ h
  pub small : r < 2 ^ 32

-- without the last pair of h's digits there is a quarter of h
pub quarter : (q k : ℕ) → 0 < k → q / 2 ^ (2 * k) ≡ q / 2 ^ (2 * (k - 1)) / 4
quarter q k h =
    let j = 2 * (k - 1) in
    let e : 2 * k ≡ suc (suc j) = omega arith in
    let m = 2 ^ j in
    let f : 2 * (2 * m) ≡ m * 4 = omega arith in
    ap (λ (n : ℕ). q / 2 ^ n) e
    ∙ ap (λ (n : ℕ). q / n) (pow-succ' 2 (suc j) ∙ ap (λ (n : ℕ). 2 * n) (pow-succ' 2 j) ∙ f)
    ∙ sym (div-div-eq-div-mul q m 4)

module _ (h r rest : ℕ) (fits : h < 2 ^ 64) (was : Brought (h / 4) r rest) where
  pub digit_one : 2 * (2 * r) < 4 * rest + h % 4 → Brought h (2 * r + 1) (4 * rest + h % 4 - (2 * (2 * r) + 1))
  digit_one t =
      let a : (2 * r + 1) * (2 * r + 1) ≤ h = omega (arith, was.left) in
      record {
        is_root = record { not_above = a; largest = omega (arith, was.is_root.largest) };
        left = omega (arith, was.left);
        small = square_lt (2 * r + 1) (2 ^ 32) (omega (arith, a));
      }

  pub digit_zero : 4 * rest + h % 4 ≤ 2 * (2 * r) → Brought h (2 * r) (4 * rest + h % 4)
  digit_zero t =
      let a : 2 * r * (2 * r) ≤ h = omega (arith, was.left) in
      record {
        is_root = record { not_above = a; largest = omega (arith, was.left) };
        left = omega (arith, was.left);
        small = square_lt (2 * r) (2 ^ 32) (omega (arith, a));
      }
