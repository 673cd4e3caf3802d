-- Arcs by their radius, in units of 0.00001 mm: the centre, or none where the radius is refused.
use Rattle.std.specs.Prelude.{◌∷◌}
use Rattle.terms.specs.Common.{ℕ, Bool, true, false, List, [], Option, None, Some, ℤ, pos, neg_ℤ}
use Rattle.terms.specs.Terms.{when}
use Rattle.lengths.specs.{Units.len, declared.Flat.Flat}
use Rattle.centres.specs.Centres.{radius_holds, centre_by}

pub record Row : Type 0 where
  pub radius : ℤ
  pub left : Bool
  pub start : Flat
  pub end : Flat
  pub centre : Option Flat

unfoldable pub centre_of_row : Row → Option Flat
centre_of_row row =
    when (radius_holds row.radius row.start row.end) (centre_by row.left row.radius row.start row.end)

abbrev minus : ℕ → ℤ
minus n = neg_ℤ (pos n)

abbrev at : ℤ → ℤ → Flat
at first second = record { first = len first; second = len second }

abbrev left : ℤ → Flat → Flat → Flat → Row
left r s e c = record { radius = r; left = true; start = s; end = e; centre = Some c }

abbrev right : ℤ → Flat → Flat → Flat → Row
right r s e c = record { radius = r; left = false; start = s; end = e; centre = Some c }

abbrev refused : ℤ → Flat → Flat → Row
refused r s e = record { radius = r; left = true; start = s; end = e; centre = None }

abbrev pub rows : List Row
rows =
    -- a chord of twice the radius: the centre is its middle, on either side; one unit more is too long
    left (minus 500_000) (at (pos 1_000_000) (pos 1_000_000)) (at (pos 2_000_000) (pos 1_000_000)) (at (pos 1_500_000) (pos 1_000_000))
    ∷ right (pos 500_000) (at (pos 1_000_000) (pos 1_000_000)) (at (pos 2_000_000) (pos 1_000_000)) (at (pos 1_500_000) (pos 1_000_000))
    ∷ refused (minus 500_000) (at (pos 1_000_000) (pos 1_000_000)) (at (pos 2_000_001) (pos 1_000_000))
    ∷ refused (pos 500_000) (at (pos 1_000_000) (pos 1_000_000)) (at (pos 2_000_001) (pos 1_000_000))
    -- a centre of whole numbers, the second in G18's order, Z then X
    ∷ right (pos 500_000) (at (pos 1_000_000) (pos 1_000_000)) (at (pos 1_600_000) (pos 1_000_000)) (at (pos 1_300_000) (pos 600_000))
    ∷ left (pos 500_000) (at (minus 2_000_000) (pos 1_000_000)) (at (minus 1_500_000) (pos 1_500_000)) (at (minus 2_000_000) (pos 1_500_000))
    -- 331,662.479 units from the chord's middle, rounded down above and below 0
    ∷ left (pos 600_000) (at (pos 1_000_000) (pos 1_000_000)) (at (pos 2_000_000) (pos 1_000_000)) (at (pos 1_500_000) (pos 1_331_662))
    ∷ right (pos 600_000) (at (minus 2_000_000) (minus 1_000_000)) (at (minus 1_000_000) (minus 1_000_000)) (at (minus 1_500_000) (minus 1_331_663))
    -- an aslant chord below 0: −568,227.800 and −2,550,974.380 to its left, −1,666,339.200 and −2,214,457.620 to its right
    ∷ left (pos 700_000) (at (minus 1_000_000) (minus 2_000_000)) (at (minus 1_234_567) (minus 2_765_432)) (at (minus 568_228) (minus 2_550_975))
    ∷ right (pos 700_000) (at (minus 1_000_000) (minus 2_000_000)) (at (minus 1_234_567) (minus 2_765_432)) (at (minus 1_666_340) (minus 2_214_458))
    -- the smallest radius: the longest chord, and the shortest, whose middle is at −0.5
    ∷ left (pos 3_000) (at (pos 0) (pos 0)) (at (pos 6_000) (pos 0)) (at (pos 3_000) (pos 0))
    ∷ left (pos 3_000) (at (minus 1) (minus 1)) (at (minus 1) (pos 0)) (at (minus 3_001) (minus 1))
    ∷ right (minus 3_000) (at (minus 1) (minus 1)) (at (minus 1) (pos 0)) (at (pos 2_998) (minus 1))
    ∷ refused (pos 2_999) (at (pos 0) (pos 0)) (at (pos 5_998) (pos 0))
    ∷ refused (minus 2_999) (at (pos 0) (pos 0)) (at (pos 1) (pos 0))
    ∷ refused (pos 0) (at (pos 0) (pos 0)) (at (pos 1) (pos 0))
    -- the largest radius: a chord of one unit, the centre 1 / 8,000,000,000 of a unit nearer than 1,000,000,000, and a long chord
    ∷ left (pos 1_000_000_000) (at (pos 0) (pos 0)) (at (pos 1) (pos 0)) (at (pos 0) (pos 999_999_999))
    ∷ right (pos 1_000_000_000) (at (pos 0) (pos 0)) (at (pos 1) (pos 0)) (at (pos 0) (minus 1_000_000_000))
    ∷ left (minus 1_000_000_000) (at (pos 1_099_999_999) (minus 1_100_000_000)) (at (minus 100_000_000) (pos 400_000_001))
    (at (pos 282_615_323) (minus 523_907_741))
    ∷ right (pos 1_000_000_000) (at (pos 1_099_999_999) (minus 1_100_000_000)) (at (minus 100_000_000) (pos 400_000_001))
    (at (pos 717_384_675) (minus 176_092_259))
    -- start equal to end
    ∷ refused (pos 500_000) (at (pos 1_000_000) (pos 1_000_000)) (at (pos 1_000_000) (pos 1_000_000))
    ∷ refused (pos 0) (at (pos 0) (pos 0)) (at (pos 0) (pos 0)) ∷ []
