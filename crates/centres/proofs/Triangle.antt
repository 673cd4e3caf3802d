-- Two laws of triangles in whole numbers: one side is at most as long as the other two together, and the square over the sides of a
-- right angle. Assumes nothing.
use Rattle.terms.proofs.Common.{ℕ, ◌+◌, ◌-◌, ◌*◌, ◌≤◌, ◌≡◌, ap, mul-le-mul, dec_le, arith, ℤ, pos, negsuc, ◌+ℤ◌, ◌*ℤ◌}
use Rattle.lengths.{specs.Units.sq, specs.View.over, specs.View.under, proofs.Laws.view, proofs.Ring.var, proofs.Ring.◌⊞◌, proofs.Ring.◌⊠◌}
use Rattle.arcs.proofs.Extremes.{square_le}

-- ---- one side is not longer than the others together

-- (x − y)² is not below 0
pub twice_product : (x y : ℕ) → 2 * (x * y) ≤ x * x + y * y
twice_product x y = by (dec_le x y)
  where
    by : Dec (x ≤ y) → 2 * (x * y) ≤ x * x + y * y
    by (yes h) =
        let e : y ≡ x + (y - x) = omega arith in
        omega (arith, ap (λ (z : ℕ). x * z) e, ap (λ (z : ℕ). z * z) e)
    by (no h) =
        let e : x ≡ y + (x - y) = omega (arith, h) in
        omega (arith, ap (λ (z : ℕ). z * y) e, ap (λ (z : ℕ). z * z) e)

-- a and b are the lengths along the axes of a side that is at most A, c and d of one that is at most B
module _ (a b c d A B : ℕ) (h : a * a + b * b ≤ A * A) (k : c * c + d * d ≤ B * B) where
  products : a * c + b * d ≤ A * B
  products = square_le (a * c + b * d) (A * B) (omega (arith, twice_product (a * d) (b * c), mul-le-mul h k))

  pub triangle : (x y : ℕ) → x ≤ a + c → y ≤ b + d → x * x + y * y ≤ (A + B) * (A + B)
  triangle x y l m = omega (arith, products, mul-le-mul l l, mul-le-mul m m)

-- ---- the square of n · w + f · q, where q is w turned by a quarter

-- the square of a difference of naturals
difference_square : (z : ℤ) (a b : ℕ) → over z + b ≡ under z + a → sq z + 2 * (a * b) ≡ a * a + b * b
difference_square (pos k) a b e = omega (arith, ap (λ (x : ℕ). x * x) e, ap (λ (x : ℕ). x * b) e)
difference_square (negsuc k) a b e = omega (arith, ap (λ (x : ℕ). x * x) e, ap (λ (x : ℕ). x * a) e)

module _ (z n a b f c d : ℕ) where
  -- of n · (a − b) + f · (c − d): multiplied out, and the squares of a − b and c − d put together
  expanded :
      z + 2 * ((n * a + f * c) * (n * b + f * d)) ≡ (n * a + f * c) * (n * a + f * c) + (n * b + f * d) * (n * b + f * d)
      → z + 2 * (n * n * (a * b) + n * f * (a * d + b * c) + f * f * (c * d))
      ≡ n * n * (a * a + b * b) + 2 * (n * f * (a * c + b * d)) + f * f * (c * c + d * d)
  expanded h = omega arith

  collected :
      (w q : ℕ) → z + 2 * (n * n * (a * b) + n * f * (a * d + b * c) + f * f * (c * d))
      ≡ n * n * (a * a + b * b) + 2 * (n * f * (a * c + b * d)) + f * f * (c * c + d * d)
      → w + 2 * (a * b) ≡ a * a + b * b → q + 2 * (c * d) ≡ c * c + d * d
      → z + 2 * (n * f * (a * d + b * c)) ≡ n * n * w + f * f * q + 2 * (n * f * (a * c + b * d))
  collected w q h k l = omega (arith, ap (λ (x : ℕ). n * n * x) k, ap (λ (x : ℕ). f * f * x) l)

module _ (w q : ℤ) (f n : ℕ) where
  square_across :
      sq (pos n *ℤ w +ℤ q *ℤ pos f) + 2 * (n * f * (over w * under q + under w * over q))
      ≡ n * n * sq w + f * f * sq q + 2 * (n * f * (over w * over q + under w * under q))
  square_across =
      let v = pos n *ℤ w +ℤ q *ℤ pos f in
      let e : over v + (n * under w + f * under q) ≡ under v + (n * over w + f * over q) =
      omega (arith, (var (pos n) ⊠ var w ⊞ var q ⊠ var (pos f)).bal) in
      let g = difference_square v (n * over w + f * over q) (n * under w + f * under q) e in
      let h = expanded (sq v) n (over w) (under w) f (over q) (under q) g in
      let a = difference_square w (over w) (under w) (omega arith) in
      let b = difference_square q (over q) (under q) (omega arith) in
      collected (sq v) n (over w) (under w) f (over q) (under q) (sq w) (sq q) h a b

-- what the squares of both axes come to, where the products of w and q cancel
module _ (n f m y z u v : ℕ) (k : u + v ≡ m) where
  added :
      (s t a b c d : ℕ) → s + t ≡ m → a + c ≡ b + d → y + 2 * (n * f * b) ≡ n * n * s + f * f * u + 2 * (n * f * a)
      → z + 2 * (n * f * d) ≡ n * n * t + f * f * v + 2 * (n * f * c) → y + z ≡ n * n * m + f * f * m
  added s t a b c d h e g i =
      omega (arith, ap (λ (x : ℕ). n * f * x) e, ap (λ (x : ℕ). n * n * x) h, ap (λ (x : ℕ). f * f * x) k)

-- q is w turned by a quarter, to the one side or the other; m is the square of either
pub record Quarter (m : ℕ) (w₁ w₂ q₁ q₂ : ℤ) : Type 0 where
  pub right : w₁ *ℤ q₁ +ℤ w₂ *ℤ q₂ ≡ pos 0
  pub long : sq w₁ + sq w₂ ≡ m
  pub wide : sq q₁ + sq q₂ ≡ m

pub right_angled :
    {m : ℕ} (w₁ w₂ q₁ q₂ : ℤ) (f n : ℕ) → Quarter m w₁ w₂ q₁ q₂
    → sq (pos n *ℤ w₁ +ℤ q₁ *ℤ pos f) + sq (pos n *ℤ w₂ +ℤ q₂ *ℤ pos f) ≡ n * n * m + f * f * m
right_angled {m} w₁ w₂ q₁ q₂ f n h =
    let a = over w₁ * over q₁ + under w₁ * under q₁ in
    let b = over w₁ * under q₁ + under w₁ * over q₁ in
    let c = over w₂ * over q₂ + under w₂ * under q₂ in
    let d = over w₂ * under q₂ + under w₂ * over q₂ in
    let e : a + c ≡ b + d = omega (arith, view, h.right, (var w₁ ⊠ var q₁ ⊞ var w₂ ⊠ var q₂).bal) in
    let y = sq (pos n *ℤ w₁ +ℤ q₁ *ℤ pos f) in
    let z = sq (pos n *ℤ w₂ +ℤ q₂ *ℤ pos f) in
    added n f m y z (sq q₁) (sq q₂) h.wide
    (sq w₁) (sq w₂) a b c d h.long e (square_across w₁ q₁ f n) (square_across w₂ q₂ f n)
