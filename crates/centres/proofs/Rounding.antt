-- What the rules compute is the exact centre, each coordinate rounded down, and there is only one such centre. Assumes nothing.
use Rattle.terms.proofs.Common.{ℕ, zero, suc, ◌+◌, ◌-◌, ◌*◌, ◌/◌, ◌^◌, ◌≤◌, ◌<◌, ◌≡◌, refl, Bool, true, false, mul-le-mul_right, div-mul-le_self, lt-div-mul-add, div-le_of_le-mul, arith, eqb, ℤ, pos, negsuc, neg_ℤ, ◌+ℤ◌, ◌-ℤ◌, ◌*ℤ◌, le_z, lt_z, eqb-true, eqb-false}
use Rattle.lengths.specs.{Units.sq, Units.halved, View.over, View.under, View.Within, declared.Flat.Flat}
use Rattle.lengths.proofs.Laws.{view, sum_bal, diff_bal, neg_over, neg_under, halved_over, halved_under, sq_near}
use Rattle.arcs.{specs.Root.Root, specs.Root.root, specs.Turning.direction, specs.Arcs.distance², proofs.Root.root_is}
use Rattle.centres.specs.Centres.{radius_holds, across, spare, signed_square, RoundedDown, Centre, scaled_root, coordinate, centre_by}
use Rattle.centres.proofs.{Accepted.chord_some, Sides.across_first, Sides.across_second}
use Rattle.centres.proofs.SignedSquares.{square_bal, square_most, square_less, less_square}

-- ---- the root that is computed

-- below 0 it is − m or one less
negated_bal : (m d : ℕ) → over (signed_square (neg_ℤ (pos m)) *ℤ pos d) + m * m * d ≡ under (signed_square (neg_ℤ (pos m)) *ℤ pos d)
negated_bal zero d = omega (arith, square_bal (pos zero) d)
negated_bal (suc m) d = omega (arith, square_bal (negsuc m) d)

one_above : (m : ℕ) → negsuc m +ℤ pos 1 ≡ neg_ℤ (pos m)
one_above m = omega (arith, view, sum_bal (negsuc m) (pos 1), neg_over (pos m), neg_under (pos m))

-- z is q · √(n / d) rounded down
record Floor (q : ℤ) (n d : ℕ) (z : ℤ) : Type 0 where
  not_above : le_z (signed_square z *ℤ pos d) (signed_square q *ℤ pos n) ≡ true
  largest : lt_z (signed_square q *ℤ pos n) (signed_square (z +ℤ pos 1) *ℤ pos d) ≡ true

-- the root m of a quotient, without the division
record Scaled (whole d m : ℕ) : Type 0 where
  not_above : m * m * d ≤ whole
  largest : whole < (m + 1) * (m + 1) * d

quotient_root : (whole d : ℕ) → 0 < d → whole / d < 2 ^ 64 → Scaled whole d (root (whole / d))
quotient_root whole d k h =
    let m = root (whole / d) in
    let i : Root (whole / d) m = root_is (whole / d) h in
    record {
      not_above = omega (arith, div-mul-le_self whole d, mul-le-mul_right d i.not_above);
      largest = omega (arith, lt-div-mul-add {a = whole} k, mul-le-mul_right d i.largest);
    }

module _ (n d m : ℕ) (k : 0 < d) where
  floor_up : (a : ℕ) → Scaled (a * a * n) d m → Floor (pos a) n d (pos m)
  floor_up a h =
      record {
        not_above = omega (arith, view, square_bal (pos m) d, square_bal (pos a) n, h.not_above);
        largest = omega (arith, view, square_bal (pos (m + 1)) d, square_bal (pos a) n, h.largest);
      }

  -- below 0 the exact root
  floor_exact : (a : ℕ) → m * m * d ≡ suc a * suc a * n → Floor (negsuc a) n d (neg_ℤ (pos m))
  floor_exact a e =
      let z = neg_ℤ (pos m) in
      let s = square_less z (z +ℤ pos 1) d k (omega (arith, view, sum_bal z (pos 1))) in
      record {
        not_above = omega (arith, view, negated_bal m d, square_bal (negsuc a) n);
        largest = omega (arith, view, negated_bal m d, square_bal (negsuc a) n, s);
      }

  -- and else one below it
  floor_down : (a : ℕ) → Scaled (suc a * suc a * n) d m → (m * m * d ≡ suc a * suc a * n → ⊥) → Floor (negsuc a) n d (negsuc m)
  floor_down a h f =
      record {
        not_above = omega (arith, view, square_bal (negsuc m) d, square_bal (negsuc a) n, h.largest);
        largest = rw (one_above m) (omega (arith, view, negated_bal m d, square_bal (negsuc a) n, h.not_above, f));
      }

module _ (n d : ℕ) (k : 0 < d) (small : n < 2 ^ 64) where
  scaled_is : (q : ℤ) → sq q ≤ d → Floor q n d (scaled_root q n d)
  unfolding scaled_root
  scaled_is (pos a) h =
      let f : a * a * n / d ≤ n = div-le_of_le-mul d (mul-le-mul_right n h) in
      let e : le_z (pos 0) (pos a) ≡ true = omega (arith, view) in
      let g = floor_up n d (root (a * a * n / d)) k a (quotient_root (a * a * n) d k (omega arith)) in
      rw e g
  scaled_is (negsuc a) h = go (eqb (m * m * d) whole) refl
    where
      whole : ℕ
      whole = suc a * suc a * n

      m : ℕ
      m = root (whole / d)

      go : (t : Bool) → eqb (m * m * d) whole ≡ t → Floor (negsuc a) n d (scaled_root (negsuc a) n d)
      go true e = rw e (floor_exact n d m k a (eqb-true (m * m * d) whole e))
      go false e =
          let f : whole / d ≤ n = div-le_of_le-mul d (mul-le-mul_right n h) in
          rw e (floor_down n d m k a (quotient_root whole d k (omega arith)) (eqb-false (m * m * d) whole e))

-- ---- a coordinate

-- twice the half of p + z is p + z or one less
half_low : (p z : ℤ) → let c = halved (p +ℤ z) in le_z (c +ℤ c -ℤ p) z ≡ true
half_low p z =
    let c = halved (p +ℤ z) in
    omega (arith, view, sum_bal c c, diff_bal (c +ℤ c) p, sum_bal p z, halved_over (p +ℤ z))

half_high : (p z : ℤ) → let c = halved (p +ℤ z) in le_z (z +ℤ pos 1) (c +ℤ c +ℤ pos 2 -ℤ p) ≡ true
half_high p z =
    let c = halved (p +ℤ z) in
    let b = diff_bal (c +ℤ c +ℤ pos 2) p in
    omega (arith, view, sum_bal c c, sum_bal (c +ℤ c) (pos 2), sum_bal p z, sum_bal z (pos 1), halved_under (p +ℤ z))

pub coordinate_is : (p q : ℤ) (n d : ℕ) → 0 < d → sq q ≤ d → n < 2 ^ 64 → RoundedDown p q n d (coordinate p q n d)
unfolding coordinate
coordinate_is p q n d k h small =
    let z = scaled_root q n d in
    let c = halved (p +ℤ z) in
    let f = scaled_is n d k small q h in
    record {
      not_above = omega (arith, view, square_most (c +ℤ c -ℤ p) z d (half_low p z), f.not_above);
      largest = omega (arith, view, square_most (z +ℤ pos 1) (c +ℤ c +ℤ pos 2 -ℤ p) d (half_high p z), f.largest);
    }

-- of two numbers that are one number rounded down, neither is below the other
not_below : {p q : ℤ} {n d : ℕ} {a b : ℤ} → RoundedDown p q n d a → RoundedDown p q n d b → le_z b a ≡ true
not_below {p} {q} {n} {d} {a} {b} f g =
    let e = less_square (b +ℤ b -ℤ p) (a +ℤ a +ℤ pos 2 -ℤ p) d (omega (arith, view, g.not_above, f.largest)) in
    omega (arith, view, e, sum_bal b b, diff_bal (b +ℤ b) p, sum_bal a a, sum_bal (a +ℤ a) (pos 2), diff_bal (a +ℤ a +ℤ pos 2) p)

pub rounded_one : {p q : ℤ} {n d : ℕ} {a b : ℤ} → RoundedDown p q n d a → RoundedDown p q n d b → a ≡ b
rounded_one {p} {q} {n} {d} {a} {b} f g = omega (arith, view, not_below f g, not_below g f)

-- ---- the centre

pub centre_is : (left : Bool) (r : ℤ) (s e : Flat) → Within 1_000_000_000 r → radius_holds r s e ≡ true → Centre left r s e (centre_by left r s e)
unfolding centre_by spare
centre_is left r s e w h =
    let q = across left (direction s e) in
    let d = distance² s e in
    let some = chord_some r s e h in
    let small : 4 * sq r - d < 2 ^ 64 = omega (arith, sq_near r w) in
    record {
      first =
          coordinate_is (s.first.v +ℤ e.first.v) q.first.v (4 * sq r - d) d some
          (omega (arith, across_first left s e)) small;
      second =
          coordinate_is (s.second.v +ℤ e.second.v) q.second.v (4 * sq r - d) d some
          (omega (arith, across_second left s e)) small;
    }

pub centre_one : {left : Bool} {r : ℤ} {s e a b : Flat} → Centre left r s e a → Centre left r s e b → a ≡ b
centre_one f g = rw (rounded_one f.first g.first, rounded_one f.second g.second)
