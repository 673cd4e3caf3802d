-- The root of N / m as a fraction f / n that is at most 1 / n below it, and how far q · f / n then is from what was rounded down
-- from q times that root. So the laws of the centre need no real numbers. Assumes nothing.
use Rattle.terms.proofs.Common.{ℕ, zero, suc, ◌+◌, ◌*◌, ◌^◌, ◌≤◌, ◌<◌, ◌≡◌, ap, pow-succ', mul-le-mul_left, mul-le-mul_right, le_of_mul-le-mul_right, arith, ℤ, pos, negsuc, ◌+ℤ◌, ◌-ℤ◌, ◌*ℤ◌, nat_abs}
use Rattle.lengths.specs.View.{over, under}
use Rattle.lengths.proofs.{Laws.view, Laws.sum_bal, Laws.diff_bal, Laws.abs_mul, Laws.abs_sum, Ring.var, Ring.◌⊞◌, Ring.◌⊠◌}
use Rattle.arcs.{specs.Root.Root, specs.Root.root_below, proofs.Extremes.square_le, proofs.Root.root_below_lem}
use Rattle.centres.specs.Centres.{RoundedDown}
use Rattle.centres.proofs.SignedSquares.{square_bal}

below_power : (q : ℕ) → q < 4 ^ q
below_power zero = omega arith
below_power (suc q) = omega (arith, below_power q, pow-succ' 4 q)

-- every number has a root
pub rooted : (q : ℕ) → Root q (root_below q q)
rooted q = root_below_lem q q (below_power q)

-- f / n is at most the root of N / m, and (f + 1) / n is not below it
pub record Fraction (N m f n : ℕ) : Type 0 where
  pub not_above : f * f * m ≤ n * n * N
  pub largest : n * n * N ≤ (f + 1) * (f + 1) * m

pub fraction : (N m k : ℕ) → Fraction N m (root_below (k * k * m * N) (k * k * m * N)) (k * m)
fraction N m k =
    let f = root_below (k * k * m * N) (k * k * m * N) in
    let h : Root (k * k * m * N) f = rooted (k * k * m * N) in
    let l : k * k * m * N ≤ (f + 1) * (f + 1) = omega (arith, h.largest) in
    record {
      not_above = omega (arith, mul-le-mul_right m h.not_above);
      largest = omega (arith, mul-le-mul_right m l);
    }

-- n · t and q · f are at most 2 n + |q| apart
pub record Apart (q : ℤ) (f n : ℕ) (t : ℤ) : Type 0 where
  pub hi : n * over t + under q * f ≤ n * under t + over q * f + (2 * n + nat_abs q)
  pub lo : n * under t + over q * f ≤ n * over t + under q * f + (2 * n + nat_abs q)

module _ {N m f n : ℕ} (some : 0 < m) (near : Fraction N m f n) where
  -- t is not above b times the root, by squares, so it is not above b times the fraction that is next
  below : (b t : ℕ) → t * t * m ≤ b * b * N → n * t ≤ b * (f + 1)
  below b t h =
      square_le (n * t) (b * (f + 1))
      (le_of_mul-le-mul_right {k = m} (omega (arith, mul-le-mul_left (n * n) h, mul-le-mul_left (b * b) near.largest)) some)

  -- t is not below b times the root, so it is not below b times the fraction
  above : (b t : ℕ) → b * b * N ≤ t * t * m → b * f ≤ n * t
  above b t h =
      square_le (b * f) (n * t)
      (le_of_mul-le-mul_right {k = m} (omega (arith, mul-le-mul_left (n * n) h, mul-le-mul_left (b * b) near.not_above)) some)

  -- the same of signed numbers: n · t − q · f is at most |q|, and at least − |q|
  not_above_lem :
      (q t : ℤ) → over t * over t * m + under q * under q * N ≤ over q * over q * N + under t * under t * m
      → n * over t + under q * f ≤ n * under t + over q * f + nat_abs q
  not_above_lem (pos b) (pos t) h = omega (arith, below b t (omega arith))
  not_above_lem (pos b) (negsuc t) h = omega arith
  not_above_lem (negsuc b) (pos t) h = omega (arith, below (suc b) t (omega arith), above (suc b) 0 (omega arith))
  not_above_lem (negsuc b) (negsuc t) h = omega (arith, above (suc b) (suc t) (omega arith))

  not_below :
      (q t : ℤ) → over q * over q * N + under t * under t * m ≤ over t * over t * m + under q * under q * N
      → n * under t + over q * f ≤ n * over t + under q * f + nat_abs q
  not_below (pos b) (pos t) h = omega (arith, above b t (omega arith))
  not_below (pos b) (negsuc t) h = omega (arith, below b (suc t) (omega arith), above b 0 (omega arith))
  not_below (negsuc b) (pos t) h = omega arith
  not_below (negsuc b) (negsuc t) h = omega (arith, below (suc b) (suc t) (omega arith))

  -- So twice a coordinate that was rounded down is less than 2 units, and what the fraction lacks, from where it exactly is.
  pub apart : (p q c : ℤ) → RoundedDown p q N m c → Apart q f n (c +ℤ c -ℤ p)
  apart p q c h =
      let t = c +ℤ c -ℤ p in
      let u = c +ℤ c +ℤ pos 2 -ℤ p in
      let e : over u + under t ≡ under u + over t + 2 =
      omega (arith, diff_bal (c +ℤ c) p, diff_bal (c +ℤ c +ℤ pos 2) p, sum_bal (c +ℤ c) (pos 2)) in
      let k = not_above_lem q t (omega (arith, view, square_bal t m, square_bal q N, h.not_above)) in
      let l = not_below q u (omega (arith, view, square_bal q N, square_bal u m, h.largest)) in
      omega (arith, k, l, ap (λ (x : ℕ). n * x) e)

-- so x = n · (w + t) and v = n · w + q · f are as near to each other
module _ (w q t : ℤ) {f n : ℕ} (h : Apart q f n t) where
  moved : over (pos n *ℤ (w +ℤ t)) + (n * under w + n * under t) ≡ under (pos n *ℤ (w +ℤ t)) + (n * over w + n * over t)
  moved = omega (arith, (var (pos n) ⊠ (var w ⊞ var t)).bal)

  turned :
      over (pos n *ℤ w +ℤ q *ℤ pos f) + (n * under w + under q * f) ≡ under (pos n *ℤ w +ℤ q *ℤ pos f) + (n * over w + over q * f)
  turned = omega (arith, (var (pos n) ⊠ var w ⊞ var q ⊠ var (pos f)).bal)

  -- x is at most v + 2 n + |q|, and v at most x + 2 n + |q|
  pub spans :
      (n * nat_abs (w +ℤ t) ≤ nat_abs (pos n *ℤ w +ℤ q *ℤ pos f) + (2 * n + nat_abs q))
      × (nat_abs (pos n *ℤ w +ℤ q *ℤ pos f) ≤ n * nat_abs (w +ℤ t) + (2 * n + nat_abs q))
  spans =
      let x = pos n *ℤ (w +ℤ t) in
      let v = pos n *ℤ w +ℤ q *ℤ pos f in
      omega (arith, moved, turned, abs_mul (pos n) (w +ℤ t), abs_sum x, abs_sum v)
