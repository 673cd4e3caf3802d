-- The rounded centre's distances to the start and to the end are each less than two units from the radius. Rounding moves twice the
-- centre by less than 2 units on each axis, so by less than 3 units in all, and twice the exact centre is 2 |R| from twice either
-- end: proved without real numbers, at a fraction that is near enough to the root (proofs/Approximating.antt). Assumes nothing.
use Rattle.terms.proofs.Common.{ℕ, zero, suc, ◌+◌, ◌-◌, ◌*◌, ◌≤◌, ◌<◌, ◌≡◌, refl, ap, Bool, true, mul-le-mul, mul-le-mul_left, le_of_mul-le-mul_left, dec_lt, arith, ℤ, pos, ◌+ℤ◌, ◌-ℤ◌, ◌*ℤ◌, nat_abs, le-leb}
use Rattle.lengths.specs.{Units.sq, View.over, View.under, View.Within, declared.Flat.Flat}
use Rattle.lengths.proofs.{Laws.sum_bal, Laws.diff_bal, Laws.abs_sum, Laws.near_abs, Ring.var, Ring.◌⊞◌, Ring.◌⊟◌}
use Rattle.arcs.{specs.Root.root, specs.Turning.direction, specs.Turning.dot, specs.Arcs.distance², specs.Arcs.round_enough, proofs.Extremes.square_le, proofs.Root.root_is, proofs.Root.square_lt}
use Rattle.centres.specs.{Centres.radius_holds, Centres.across, Centres.spare, Centres.Centre, Nearness.WithinTwo, Nearness.Nearby}
use Rattle.centres.proofs.Accepted.{radius_some, chord_some, chord_spare}
use Rattle.centres.proofs.{Triangle.triangle, Triangle.Quarter, Triangle.right_angled, Sides.perpendicular, Sides.perpendicular_back, Sides.as_long}
use Rattle.centres.proofs.Approximating.{Fraction, fraction, Apart, apart, spans}

-- ---- the distances, as naturals

own_square : (p : ℕ) → p ≤ p * p
own_square zero = omega arith
own_square (suc p) = omega arith

-- n is 5 times the chord's square m. What rounding takes away and what the fraction lacks are then together at most 3 n: 2 n for
-- each axis, and one part of q, of which the square is m.
at_most_three :
    (m p q : ℕ) → 0 < m → p * p + q * q ≡ m
    → (2 * (5 * m) + p) * (2 * (5 * m) + p) + (2 * (5 * m) + q) * (2 * (5 * m) + q) ≤ 15 * m * (15 * m)
at_most_three m p q some e =
    let h : p + q ≤ m = omega (arith, own_square p, own_square q) in
    omega (arith, mul-le-mul_left m h, own_square m)

-- n times as large, and back
shrunk :
    (m x y R : ℕ) → 0 < m
    → 5 * m * x * (5 * m * x) + 5 * m * y * (5 * m * y) ≤ (10 * m * R + 15 * m) * (10 * m * R + 15 * m)
    → x * x + y * y ≤ (2 * R + 3) * (2 * R + 3)
shrunk m x y R some h = le_of_mul-le-mul_left {k = 25 * (m * m)} (omega arith) (omega (arith, own_square m))

grown :
    (m x y k : ℕ) → x * x + y * y ≤ 2 * k * (2 * k)
    → 5 * m * x * (5 * m * x) + 5 * m * y * (5 * m * y) ≤ 10 * m * k * (10 * m * k)
grown m x y k h = omega (arith, mul-le-mul_left (m * m) h)

too_near :
    (m k d : ℕ) → 0 < m → 10 * m * (k + 2) * (10 * m * (k + 2)) ≤ d + (20 * (m * m * (k + 2)) + m)
    → d ≤ (10 * m * k + 15 * m) * (10 * m * k + 15 * m) → ⊥
too_near m k d some h l = omega (arith, own_square m)

-- R is the radius' size, N what 4 R² has over m, and f / n the root of N / m
module _ (R m N f : ℕ) (some : 0 < m) (whole : m + N ≡ 4 * (R * R)) (near : Fraction N m f (5 * m)) where
  -- twice the point at the fraction is at most 2 R from twice either end, n times
  not_further : 5 * m * (5 * m) * m + f * f * m ≤ 10 * m * R * (10 * m * R)
  not_further = omega (arith, near.not_above, ap (λ (x : ℕ). m * m * x) whole)

  fraction_small : f ≤ 10 * m * R
  fraction_small = square_le f (10 * m * R) (omega (arith, not_further, mul-le-mul_left (f * f) some))

  -- and hardly less
  hardly_less : 10 * m * R * (10 * m * R) ≤ 5 * m * (5 * m) * m + f * f * m + (20 * (m * m * R) + m)
  hardly_less = omega (arith, near.largest, ap (λ (x : ℕ). m * m * x) whole, mul-le-mul_left m fraction_small)

  -- v is that way, on each axis, x the way to twice the centre, p the way across
  module _ (v₁ v₂ p₁ p₂ x₁ x₂ : ℕ) (v : v₁ * v₁ + v₂ * v₂ ≡ 5 * m * (5 * m) * m + f * f * m) (p : p₁ * p₁ + p₂ * p₂ ≡ m) where
    at_most :
        5 * m * x₁ ≤ v₁ + (2 * (5 * m) + p₁) → 5 * m * x₂ ≤ v₂ + (2 * (5 * m) + p₂)
        → x₁ * x₁ + x₂ * x₂ ≤ (2 * R + 3) * (2 * R + 3)
    at_most h k =
        let off₁ = 2 * (5 * m) + p₁ in
        let off₂ = 2 * (5 * m) + p₂ in
        let l : v₁ * v₁ + v₂ * v₂ ≤ 10 * m * R * (10 * m * R) = omega (arith, not_further) in
        let w = at_most_three m p₁ p₂ some p in
        shrunk m x₁ x₂ R some (triangle v₁ v₂ off₁ off₂ (10 * m * R) (15 * m) l w (5 * m * x₁) (5 * m * x₂) h k)

    more_than :
        (k : ℕ) → R ≡ k + 2 → v₁ ≤ 5 * m * x₁ + (2 * (5 * m) + p₁) → v₂ ≤ 5 * m * x₂ + (2 * (5 * m) + p₂)
        → 2 * k * (2 * k) < x₁ * x₁ + x₂ * x₂
    more_than k e h i = by (dec_lt (2 * k * (2 * k)) (x₁ * x₁ + x₂ * x₂))
      where
        by : Dec (2 * k * (2 * k) < x₁ * x₁ + x₂ * x₂) → 2 * k * (2 * k) < x₁ * x₁ + x₂ * x₂
        by (yes l) = l
        by (no l) =
            let off₁ = 2 * (5 * m) + p₁ in
            let off₂ = 2 * (5 * m) + p₂ in
            let g = grown m x₁ x₂ k (omega (arith, l)) in
            let w = at_most_three m p₁ p₂ some p in
            let t = triangle (5 * m * x₁) (5 * m * x₂) off₁ off₂ (10 * m * k) (15 * m) g w v₁ v₂ h i in
            absurd (too_near m k (5 * m * (5 * m) * m + f * f * m) some (rw e at hardly_less) (omega (arith, v, t)))

-- ---- the centre

module _ (g h x y : ℕ) (e : x ≡ 2 * g) (f : y ≡ 2 * h) where
  less_halved : (R : ℕ) → x * x + y * y ≤ (2 * R + 3) * (2 * R + 3) → g * g + h * h < (R + 2) * (R + 2)
  less_halved R k = omega (arith, ap (λ (z : ℕ). z * z) e, ap (λ (z : ℕ). z * z) f)

  more_halved : (k : ℕ) → 2 * k * (2 * k) < x * x + y * y → k * k < g * g + h * h
  more_halved k l = omega (arith, ap (λ (z : ℕ). z * z) e, ap (λ (z : ℕ). z * z) f)

-- One end p of the chord: w is the way from there to the other end, q the way across, and t twice the centre c less both ends, so
-- that w + t is twice the way from p to c.
module _ {m N f : ℕ} (some : 0 < m) (near : Fraction N m f (5 * m)) (w₁ w₂ q₁ q₂ t₁ t₂ : ℤ) where
  within_two :
      (r : ℤ) (p c : Flat) → 2 ≤ nat_abs r → m + N ≡ 4 * sq r → Quarter m w₁ w₂ q₁ q₂
      → Apart q₁ f (5 * m) t₁ → Apart q₂ f (5 * m) t₂
      → nat_abs (w₁ +ℤ t₁) ≡ 2 * nat_abs (p.first.v -ℤ c.first.v)
      → nat_abs (w₂ +ℤ t₂) ≡ 2 * nat_abs (p.second.v -ℤ c.second.v) → WithinTwo r c p
  unfolding distance²
  within_two r p c size whole h a b i j =
      let R = nat_abs r in
      let v₁ = nat_abs (pos (5 * m) *ℤ w₁ +ℤ q₁ *ℤ pos f) in
      let v₂ = nat_abs (pos (5 * m) *ℤ w₂ +ℤ q₂ *ℤ pos f) in
      let p₁ = nat_abs q₁ in
      let p₂ = nat_abs q₂ in
      let x = nat_abs (w₁ +ℤ t₁) in
      let y = nat_abs (w₂ +ℤ t₂) in
      let e = right_angled w₁ w₂ q₁ q₂ f (5 * m) h in
      let k = spans w₁ q₁ t₁ a in
      let l = spans w₂ q₂ t₂ b in
      let least = more_than R m N f some whole near v₁ v₂ p₁ p₂ x y e h.wide (R - 2) (omega arith) k.1 l.1 in
      let most = at_most R m N f some whole near v₁ v₂ p₁ p₂ x y e h.wide k.0 l.0 in
      let d₁ = nat_abs (p.first.v -ℤ c.first.v) in
      let d₂ = nat_abs (p.second.v -ℤ c.second.v) in
      record { more = more_halved d₁ d₂ x y i j (R - 2) least; less = less_halved d₁ d₂ x y i j R most }

-- On one axis: p is that end and o the other, b their sum.
twice :
    (p o b c : ℤ) → over b + (under p + under o) ≡ under b + (over p + over o)
    → nat_abs ((o -ℤ p) +ℤ (c +ℤ c -ℤ b)) ≡ 2 * nat_abs (p -ℤ c)
twice p o b c h =
    let e = ((var o ⊟ var p) ⊞ (var c ⊞ var c ⊟ var b)).bal in
    omega (arith, e, abs_sum ((o -ℤ p) +ℤ (c +ℤ c -ℤ b)), abs_sum (p -ℤ c), diff_bal p c)

abs_back : (a b : ℤ) → nat_abs (a -ℤ b) ≡ nat_abs (b -ℤ a)
abs_back a b = omega (arith, abs_sum (a -ℤ b), abs_sum (b -ℤ a), diff_bal a b, diff_bal b a)

distance_back : (a b : Flat) → distance² a b ≡ distance² b a
unfolding distance²
distance_back a b = rw (abs_back b.first.v a.first.v, abs_back b.second.v a.second.v)

-- For every arc by its radius that is accepted, and a centre on either side.
pub centre_near : (left : Bool) (r : ℤ) (s e c : Flat) → radius_holds r s e ≡ true → Centre left r s e c → Nearby r s e c
unfolding direction dot distance²
centre_near left r s e c holds h =
    let m = distance² s e in
    let N = spare r s e in
    let near = fraction N m 5 in
    let some = chord_some r s e holds in
    let size : 2 ≤ nat_abs r = omega (arith, radius_some r s e holds) in
    let whole = chord_spare r s e holds in
    let w = direction s e in
    let back = direction e s in
    let q = across left w in
    let b₁ = s.first.v +ℤ e.first.v in
    let b₂ = s.second.v +ℤ e.second.v in
    let t₁ = c.first.v +ℤ c.first.v -ℤ b₁ in
    let t₂ = c.second.v +ℤ c.second.v -ℤ b₂ in
    let a₁ = apart some near b₁ q.first.v c.first.v h.first in
    let a₂ = apart some near b₂ q.second.v c.second.v h.second in
    let i = sum_bal s.first.v e.first.v in
    let j = sum_bal s.second.v e.second.v in
    record {
      start =
          within_two some near w.first.v w.second.v q.first.v q.second.v t₁ t₂ r s c size whole
          (record { right = perpendicular left w; long = refl; wide = as_long left s e }) a₁ a₂
          (twice s.first.v e.first.v b₁ c.first.v i)
          (twice s.second.v e.second.v b₂ c.second.v j);
      end =
          within_two some near back.first.v back.second.v q.first.v q.second.v t₁ t₂ r e c size whole
          (record { right = perpendicular_back left s e; long = distance_back e s; wide = as_long left s e }) a₁ a₂
          (twice e.first.v s.first.v b₁ c.first.v (omega (arith, i)))
          (twice e.second.v s.second.v b₂ c.second.v (omega (arith, j)));
    }

-- ---- So the rule of an arc by its centre, 2,000 at least and 1,000 off at most, never refuses an arc by its radius.

round_enough_lem :
    (R k end : ℕ) → 3_000 ≤ R → R ≤ k + 2 → k ≤ R + 1 → (R - 2) * (R - 2) < end → end < (R + 2) * (R + 2) → round_enough k end ≡ true
unfolding round_enough
round_enough_lem R k end size h l more less =
    let low : k - 1_000 ≤ R - 2 = omega arith in
    let high : R + 2 ≤ k + 1_000 = omega arith in
    rw (
      le-leb 2_000 k (omega arith),
      le-leb ((k - 1_000) * (k - 1_000)) end (omega (arith, mul-le-mul low low, more)),
      le-leb end ((k + 1_000) * (k + 1_000)) (omega (arith, mul-le-mul high high, less)),
    )

pub radius_arc_holds :
    (left : Bool) (r : ℤ) (s e c : Flat) → Within 1_000_000_000 r → radius_holds r s e ≡ true → Centre left r s e c
    → round_enough (root (distance² c s)) (distance² c e) ≡ true
radius_arc_holds left r s e c small holds h =
    let R = nat_abs r in
    let near = centre_near left r s e c holds h in
    let size = radius_some r s e holds in
    let q = distance² c s in
    let most : R + 2 ≤ 1_000_000_002 = omega (arith, near_abs r small) in
    let is_root = root_is q (omega (arith, near.start.less, mul-le-mul most most)) in
    let low = square_lt (R - 2) (root q + 1) (omega (arith, near.start.more, is_root.largest)) in
    let high = square_lt (root q) (R + 2) (omega (arith, near.start.less, is_root.not_above)) in
    round_enough_lem R (root q) (distance² c e) size (omega (arith, low)) (omega (arith, high)) near.end.more near.end.less
