-- The points straight across from the chord's middle, a fraction f / n of q / 2 away from it; the exact centre is the one where f / n
-- is the root of N / d² (specs/Centres.antt). They need not be whole, so they are given 2 n times as large. proofs/Sides.antt tells
-- how start and end are seen from them.
use Rattle.std.specs.Prelude.{◌+ℤ◌, ◌*ℤ◌}
use Rattle.terms.specs.Common.{ℕ, Bool, pos}
use Rattle.lengths.specs.{Units.len, declared.Flat.Flat}
use Rattle.arcs.specs.Turning.{direction}
use Rattle.centres.specs.Centres.{across}

-- a point n times as large
unfoldable pub times : ℕ → Flat → Flat
times n p = record { first = len (pos n *ℤ p.first.v); second = len (pos n *ℤ p.second.v) }

-- n · (s + e) + f · q
unfoldable pub across_at : Bool → ℕ → ℕ → Flat → Flat → Flat
across_at left f n s e =
    let q = across left (direction s e) in
    record {
      first = len (pos n *ℤ (s.first.v +ℤ e.first.v) +ℤ pos f *ℤ q.first.v);
      second = len (pos n *ℤ (s.second.v +ℤ e.second.v) +ℤ pos f *ℤ q.second.v);
    }
