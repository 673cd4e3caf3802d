-- Document 02, #101: "R positive is the arc of at most half a turn, R negative the larger one. The centre is the exact one, each
-- coordinate rounded down to a whole unit".
use Rattle.std.specs.Prelude.{◌-◌, ◌*◌, ◌/◌, ◌≡◌, ◌&&◌, ◌+ℤ◌, ◌-ℤ◌, ◌*ℤ◌, if◌then◌else◌}
use Rattle.terms.specs.Common.{ℕ, Bool, true, false, leb, ltb, eqb, ℤ, pos, negsuc, neg_ℤ, nat_abs, le_z, lt_z}
use Rattle.lengths.specs.{Units.len, Units.sq, Units.halved, declared.Flat.Flat}
use Rattle.arcs.specs.{Root.root, Turning.direction, Arcs.distance²}

-- "1 by geometry for a radius under 3,000 units in magnitude, start equal to end, or a chord longer than twice the radius, and for
-- no other R": the chord's square is at least 1 and at most 4 R².
unfoldable pub radius_holds : ℤ → Flat → Flat → Bool
radius_holds r s e = leb 3_000 (nat_abs r) && ltb 0 (distance² s e) && leb (distance² s e) (4 * sq r)

-- Let D be the way from the start s to the end e and d² its square. Both ends are |R| from the exact centre, so it lies straight
-- across from the chord's middle, and the square of twice its distance from there is N = 4 R² − d². With q, which is D turned by a
-- quarter to the centre's side and so as long as D, twice the exact centre is s + e + q · √(N / d²).

-- D turned by a quarter: to its left, or to its right
unfoldable pub across : Bool → Flat → Flat
across true d = record { first = len (neg_ℤ d.second.v); second = d.first }
across false d = record { first = d.second; second = len (neg_ℤ d.first.v) }

-- N
unfoldable pub spare : ℤ → Flat → Flat → ℕ
spare r s e = 4 * sq r - distance² s e

-- A number times its size: the square with the number's sign. The larger of two numbers has the larger signed square.
unfoldable pub signed_square : ℤ → ℤ
signed_square z = z *ℤ pos (nat_abs z)

-- c is (p + q · √(n / d)) / 2 rounded down: it is not above that number, and c + 1 is. So 2 c − p is at most q · √(n / d), and
-- 2 c + 2 − p is more: both sides are multiplied by the root of d and compared by their signed squares.
pub record RoundedDown (p q : ℤ) (n d : ℕ) (c : ℤ) : Type 0 where
  pub not_above : le_z (signed_square (c +ℤ c -ℤ p) *ℤ pos d) (signed_square q *ℤ pos n) ≡ true
  pub largest : lt_z (signed_square q *ℤ pos n) (signed_square (c +ℤ c +ℤ pos 2 -ℤ p) *ℤ pos d) ≡ true

-- c is the centre of the arc from s to e with the radius r; `left` tells that it lies to the left of the way from s to e.
pub record Centre (left : Bool) (r : ℤ) (s e c : Flat) : Type 0 where
  pub first :
      RoundedDown (s.first.v +ℤ e.first.v) (across left (direction s e)).first.v (spare r s e) (distance² s e) c.first.v
  pub second :
      RoundedDown (s.second.v +ℤ e.second.v) (across left (direction s e)).second.v (spare r s e) (distance² s e) c.second.v

-- The same computed, as proofs/Rounding.antt shows: q · √(n / d) rounded down. Below 0 one more is subtracted, unless the root is exact.
unfoldable pub scaled_root : ℤ → ℕ → ℕ → ℤ
scaled_root q n d =
    let m = root (sq q * n / d) in
    if le_z (pos 0) q then pos m
    else (if eqb (m * m * d) (sq q * n) then neg_ℤ (pos m)
    else negsuc m)

unfoldable pub coordinate : ℤ → ℤ → ℕ → ℕ → ℤ
coordinate p q n d = halved (p +ℤ scaled_root q n d)

unfoldable pub centre_by : Bool → ℤ → Flat → Flat → Flat
centre_by left r s e =
    let q = across left (direction s e) in
    let n = spare r s e in
    let d = distance² s e in
    record {
      first = len (coordinate (s.first.v +ℤ e.first.v) q.first.v n d);
      second = len (coordinate (s.second.v +ℤ e.second.v) q.second.v n d);
    }
