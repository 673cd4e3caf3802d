-- The turn of an arc: quarters of it, the points where they lead, and which arcs have numbers that leave room for that.
use Rattle.std.specs.Prelude.{◌&&◌, ◌-ℤ◌, if◌then◌else◌}
use Rattle.terms.specs.Common.{ℕ, Bool, true, false, not, leb, neg_ℤ, nat_abs}
use Rattle.lengths.specs.{declared.Len.Len, Units.len, Units.◌⊕◌, Units.fits_four, View.Short, declared.Point.Point, declared.Flat.Flat, Points.flat}
use Rattle.codes.specs.declared.Plane.{Plane, TheVariants.G17, TheVariants.G18, TheVariants.G19}
use Rattle.records.specs.declared.Arc.{Arc}
use Rattle.arcs.specs.{Root.root, Turning.left, Arcs.centre_of, Arcs.radius², Bounds.Reach}

-- a direction, a quarter of a turn on: to the left where `turn` is true, else to the right
unfoldable pub quarter_on : Bool → Flat → Flat
quarter_on true d = record { first = len (neg_ℤ d.second.v); second = d.first }
quarter_on false d = record { first = d.second; second = len (neg_ℤ d.first.v) }

-- w is less than half a turn on from d
unfoldable pub onward : Bool → Flat → Flat → Bool
onward turn d w = if turn then left d w else left w d

-- w is on from d, and at most a quarter
unfoldable pub soon : Bool → Flat → Flat → Bool
soon turn d w = onward turn d w && not (onward turn (quarter_on turn d) w)

-- a point by its two numbers in a plane, with the third number of another point
unfoldable pub lifted : Plane → Point → Len → Len → Point
lifted G17 p first second = record { x = first; y = second; z = p.z }
lifted G18 p first second = record { x = second; y = p.y; z = first }
lifted G19 p first second = record { x = p.x; y = first; z = second }

-- where a direction from an arc's centre leads
unfoldable pub point_on : Point → Arc → Flat → Point
point_on from a d = lifted a.plane from (a.first ⊕ d.first) (a.second ⊕ d.second)

-- "the largest whole number whose square is not above the squared start radius"
unfoldable pub radius_of : Point → Arc → ℕ
radius_of from a = root (radius² from a)

-- How far the centre may be from both ends, and which numbers it may have, so that all products and sums fit 64 bits. The
-- arcs of a run keep this: their centres are at most 1,000,000,000 from the start and 1,414,214,562 from the end on each axis.
unfoldable pub near : Len → Len → Bool
near a b = leb (nat_abs (a.v -ℤ b.v)) 1_500_000_000

unfoldable pub drawable : Point → Arc → Bool
drawable from a =
    near (flat a.plane from).first a.first
    && near (flat a.plane from).second a.second
    && (near (flat a.plane a.end).first a.first && near (flat a.plane a.end).second a.second)
    && (fits_four a.first.v && fits_four a.second.v)

-- the same as linear facts
pub record Drawable (from : Point) (a : Arc) : Type 0 where
  pub start : Reach 1_500_000_000 (centre_of a) (flat a.plane from)
  pub end : Reach 1_500_000_000 (centre_of a) (flat a.plane a.end)
  pub first : Short a.first.v
  pub second : Short a.second.v
