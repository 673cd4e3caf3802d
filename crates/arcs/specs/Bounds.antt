-- The bounds under which every product of the arc rule fits 64 bits, as linear facts of naturals (specs/View.antt of `lengths`).
use Rattle.std.specs.Prelude.{◌+◌, ◌≤◌, ◌≡◌}
use Rattle.terms.specs.Common.{ℕ, true}
use Rattle.lengths.specs.{declared.Len.Len, View.over, View.under, View.Within, declared.Point.Point, declared.Flat.Flat, declared.Travel.Travel, Points.flat}
use Rattle.records.specs.{declared.Arc.Arc, Path.Path, Path.straight, Path.clockwise, Path.counter, Path.still}
use Rattle.arcs.specs.{Turning.direction, Arcs.centre_of, Arcs.arc_holds}

-- a and b are at most n apart
pub record Close (n : ℕ) (a b : Len) : Type 0 where
  pub hi : over a.v + under b.v ≤ over b.v + under a.v + n
  pub lo : over b.v + under a.v ≤ over a.v + under b.v + n

-- the same on both axes of a plane, and on all axes
pub record Reach (n : ℕ) (a b : Flat) : Type 0 where
  pub first : Close n a.first b.first
  pub second : Close n a.second b.second

pub record Beside (n : ℕ) (a b : Point) : Type 0 where
  pub x : Close n a.x b.x
  pub y : Close n a.y b.y
  pub z : Close n a.z b.z

-- a direction of 31 bits: a product of two such numbers is below 2 ^ 62
pub record Small (d : Flat) : Type 0 where
  pub first : Within 2_147_483_647 d.first.v
  pub second : Within 2_147_483_647 d.second.v

-- What a run keeps, whatever its origins. A centre word is within 1,000,000,000, so the centre is that near to the start on each
-- axis; start and travel are within 100,000,000 of the machine's zero, so they are within 200,000,000 of each other. Only
-- differences are bounded, since the common offset displaces all of these numbers alike. Nothing is asked of the end.
pub record Bounds (t : Travel) (from : Point) (a : Arc) : Type 0 where
  pub centre : Reach 1_000_000_000 (centre_of a) (flat a.plane from)
  pub low : Beside 200_000_000 t.low from
  pub high : Beside 200_000_000 t.high from

-- an arc whose path is asked for: its geometry has been accepted
pub record Accepted (t : Travel) (from : Point) (a : Arc) : Type 0 where
  pub bounds : Bounds t from a
  pub holds : arc_holds from a ≡ true

-- the same of a record's path, where it is an arc
abbrev pub PathBounds : Travel → Point → Path → Type 0
PathBounds t from (straight p) = Unit
PathBounds t from (clockwise a) = Accepted t from a
PathBounds t from (counter a) = Accepted t from a
PathBounds t from still = Unit

-- a direction as a function answers it: the value, and that it can be multiplied
pub record Direction (a b r : Flat) : Type 0 where
  pub is : r ≡ direction a b
  pub small : Small r

-- what the test of the extremes asks of its numbers: squares of up to 4,294,967,295 fit 64 bits
pub record Framed (u w centre low high : Flat) : Type 0 where
  pub start : Small u
  pub end : Small w
  pub below : Reach 4_294_967_295 low centre
  pub above : Reach 4_294_967_295 high centre
