-- The centre lies on each axis at most the radius from the start: the exact centre does, and rounding down does not pass a whole
-- number. Assumes nothing.
use Rattle.terms.proofs.Common.{ℕ, zero, suc, ◌+◌, ◌*◌, ◌≤◌, ◌<◌, ◌≡◌, sym, Bool, true, mul-le-mul, mul-le-mul_left, arith, ℤ, pos, negsuc, neg_ℤ, ◌+ℤ◌, ◌-ℤ◌, ◌*ℤ◌, nat_abs, le_z}
use Rattle.lengths.specs.{Units.len, Units.sq, View.over, View.under, View.Within, declared.Flat.Flat}
use Rattle.lengths.proofs.Laws.{view, sum_bal, diff_bal, neg_over, neg_under, abs_sum, near_abs, near_sq}
use Rattle.arcs.specs.{Turning.direction, Arcs.distance², Bounds.Close, Bounds.Reach}
use Rattle.centres.specs.{Centres.across, Centres.spare, Centres.signed_square, Centres.RoundedDown, Centres.centre_by, Bounds.Spanned}
use Rattle.centres.proofs.Accepted.{chord_some, chord_spare}
use Rattle.centres.proofs.{SignedSquares.square_bal, SignedSquares.less_square, SignedSquares.most_square, Triangle.twice_product, Sides.across_first, Sides.across_second, Rounding.centre_is}

-- Let x be the chord's size on an axis, across² + x² its square, and n what that lacks of 4 m². Where t and x together are at least 2 m,
-- n + across² is at most t² + 2 t x, and the rest is that (across² − t x)² is not below 0.
axis_most : (m t x across² n : ℕ) → n + (across² + x * x) ≡ 4 * (m * m) → 2 * m ≤ t + x → across² * n ≤ t * t * (across² + x * x)
axis_most m t x across² n e h =
    let f : n + across² ≤ t * t + 2 * (t * x) = omega (arith, mul-le-mul h h) in
    omega (arith, mul-le-mul_left across² f, twice_product across² (t * x))

-- For a t that is not above 0 it gives the order of the signed squares, and for one that is not below 0 the other order.
below_across : (t q : ℤ) (n d : ℕ) → le_z t (pos 0) ≡ true → sq q * n ≤ sq t * d → le_z (signed_square t *ℤ pos d) (signed_square q *ℤ pos n) ≡ true
below_across (pos zero) (pos b) n d h k = omega (arith, view, square_bal (pos zero) d, square_bal (pos b) n)
below_across (pos zero) (negsuc b) n d h k = omega (arith, view, square_bal (pos zero) d, square_bal (negsuc b) n)
below_across (pos (suc a)) q n d h k = absurd (omega (arith, view, h))
below_across (negsuc a) (pos b) n d h k = omega (arith, view, square_bal (negsuc a) d, square_bal (pos b) n)
below_across (negsuc a) (negsuc b) n d h k = omega (arith, view, square_bal (negsuc a) d, square_bal (negsuc b) n)

above_across : (t q : ℤ) (n d : ℕ) → le_z (pos 0) t ≡ true → sq q * n ≤ sq t * d → le_z (signed_square q *ℤ pos n) (signed_square t *ℤ pos d) ≡ true
above_across (negsuc a) q n d h k = absurd (omega (arith, view, h))
above_across (pos a) (pos b) n d h k = omega (arith, view, square_bal (pos a) d, square_bal (pos b) n)
above_across (pos a) (negsuc b) n d h k = omega (arith, view, square_bal (pos a) d, square_bal (negsuc b) n)

-- One coordinate of the centre of an arc from s to e with the radius m; x is the chord's. Twice the centre's distance from the start
-- lies between −2 m and 2 m, so twice its distance from the chord's middle lies between −x − 2 m and 2 m − x.
module _ (m : ℕ) (s e q : ℤ) (n d : ℕ) (some : 0 < d) (whole : sq q + sq (e -ℤ s) ≡ d) (all : n + d ≡ 4 * (m * m)) where
  x : ℤ
  x = e -ℤ s

  span : Within (2 * m) x
  unfolding x
  span = near_sq x (omega arith)

  side : (t : ℤ) → 2 * m ≤ nat_abs t + nat_abs x → sq q * n ≤ sq t * d
  unfolding x
  side t h = rw (sym whole) (axis_most m (nat_abs t) (nat_abs x) (sq q) n (omega arith) h)

  module _ {c : ℤ} (f : RoundedDown (s +ℤ e) q n d c) where
    coordinate_low : over s + under c ≤ over c + under s + m
    unfolding x
    coordinate_low =
        let t = neg_ℤ x -ℤ pos (2 * m) in
        let next = c +ℤ c +ℤ pos 2 -ℤ (s +ℤ e) in
        let b : over t + over x + 2 * m ≡ under t + under x = omega (arith, diff_bal (neg_ℤ x) (pos (2 * m)), neg_over x, neg_under x) in
        let h = side t (omega (arith, abs_sum t, abs_sum x)) in
        let k = below_across t q n d (omega (arith, view, span)) h in
        let l = less_square t next d (omega (arith, view, k, f.largest)) in
        omega (
          arith,
          view,
          l,
          diff_bal e s,
          sum_bal s e,
          sum_bal c c,
          sum_bal (c +ℤ c) (pos 2),
          diff_bal (c +ℤ c +ℤ pos 2) (s +ℤ e),
        )

    coordinate_high : over c + under s ≤ over s + under c + m
    unfolding x
    coordinate_high =
        let t = pos (2 * m) -ℤ x in
        let b : over t + over x ≡ under t + under x + 2 * m = omega (arith, diff_bal (pos (2 * m)) x) in
        let h = side t (omega (arith, abs_sum t, abs_sum x)) in
        let k = above_across t q n d (omega (arith, view, span)) h in
        let l = most_square (c +ℤ c -ℤ (s +ℤ e)) t d some (omega (arith, view, k, f.not_above)) in
        omega (arith, view, l, diff_bal e s, sum_bal s e, sum_bal c c, diff_bal (c +ℤ c) (s +ℤ e))

    coordinate_reach : m ≤ 1_000_000_000 → Close 1_000_000_000 (len c) (len s)
    coordinate_reach h = omega (arith, coordinate_low, coordinate_high)

pub centre_reach : (left : Bool) (r : ℤ) (s e : Flat) → Spanned r s e → Reach 1_000_000_000 (centre_by left r s e) s
centre_reach left r s e h =
    let q = across left (direction s e) in
    let d = distance² s e in
    let m = nat_abs r in
    let n = spare r s e in
    let some = chord_some r s e h.holds in
    let all : n + d ≡ 4 * (m * m) = omega (arith, chord_spare r s e h.holds) in
    let c = centre_is left r s e h.chord.radius h.holds in
    let k = near_abs r h.chord.radius in
    record {
      first = coordinate_reach m s.first.v e.first.v q.first.v n d some (across_first left s e) all c.first k;
      second = coordinate_reach m s.second.v e.second.v q.second.v n d some (across_second left s e) all c.second k;
    }
