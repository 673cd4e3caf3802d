-- A point that is moved is near by the sum of the bounds. Assumes nothing.
use Rattle.terms.proofs.Common.{ℕ}
use Rattle.codes.specs.declared.Plane.{Plane, TheVariants.G17, TheVariants.G18, TheVariants.G19}
use Rattle.lengths.specs.{declared.Point.Point, Points.flat, Near.Near, Near.FlatNear}

-- a point of a plane is as near as the point in space
pub flat_near : {n : ℕ} (plane : Plane) (p : Point) → Near n p → FlatNear n (flat plane p)
unfolding flat
flat_near G17 p h = record { first = h.x; second = h.y }
flat_near G18 p h = record { first = h.z; second = h.x }
flat_near G19 p h = record { first = h.y; second = h.z }
