-- Which limit of document 01, "Lengths and the setup", a setup breaks first.
use Rattle.std.specs.Prelude.{◌∷◌, ◌++◌, if◌then◌else◌}
use Rattle.terms.specs.Common.{ℕ, suc, Bool, Option, None, Some, List, [], ℤ, le_z}
use Rattle.terms.specs.Terms.{between, within}
use Rattle.lengths.specs.declared.Point.{Point}
use Rattle.setup.specs.{declared.Axes.Axes, declared.Setup.Setup, Frame.point_of}
use Rattle.setup.specs.declared.{Axis.Axis, Axis.TheVariants.X, Axis.TheVariants.Y, Axis.TheVariants.Z, Offset.Offset, Offset.TheVariants.Common, Offset.TheVariants.Origin, Fault.Fault}
use Rattle.setup.specs.Limits.{travel_limit, offset_limit, feed_fits, range_fits, speed_fits, switch_fits}
use Rattle.setup.specs.declared.Fault.TheVariants.{TravelOrder, TravelFar, StartOutside, OffsetFar, Feed, Speeds, Speed, Switch}

-- a limit: whether it is kept, and what is said where it is not
pub record Limit : Type 0 where
  pub kept : Bool
  pub fault : Fault

abbrev limit : Bool → Fault → Limit
limit kept fault = record { kept = kept; fault = fault }

unfoldable pub first_broken : List Limit → Option Fault
first_broken [] = None
first_broken (l ∷ ls) = if l.kept then first_broken ls else Some l.fault

-- of one axis of the travel
unfoldable pub axis_limits : Axis → ℤ → ℤ → ℤ → List Limit
axis_limits axis low high start =
    limit (le_z low high) (TravelOrder axis)
    ∷ limit (within travel_limit low) (TravelFar axis)
    ∷ limit (within travel_limit high) (TravelFar axis)
    ∷ limit (between low high start) (StartOutside axis) ∷ []

unfoldable pub travel_limits : Point → Point → Point → List Limit
travel_limits low high start =
    axis_limits X low.x.v high.x.v start.x.v
    ++ (axis_limits Y low.y.v high.y.v start.y.v ++ axis_limits Z low.z.v high.z.v start.z.v)

-- of the common offset or of one origin
unfoldable pub place_limits : Offset → Point → List Limit
place_limits offset p =
    limit (within offset_limit p.x.v) (OffsetFar offset X)
    ∷ limit (within offset_limit p.y.v) (OffsetFar offset Y)
    ∷ limit (within offset_limit p.z.v) (OffsetFar offset Z) ∷ []

-- of the origins from a place of the table on
unfoldable pub origin_limits : ℕ → List Axes → List Limit
origin_limits k [] = []
origin_limits k (origin ∷ origins) = place_limits (Origin k) (point_of origin) ++ origin_limits (suc k) origins

-- of the numbers that belong to no axis
unfoldable pub number_limits : Setup → List Limit
number_limits s =
    limit (feed_fits s) Feed ∷ limit (range_fits s) Speeds ∷ limit (speed_fits s) Speed ∷ limit (switch_fits s) Switch ∷ []

unfoldable pub limits : Setup → List Limit
limits s =
    travel_limits (point_of s.low) (point_of s.high) (point_of s.start)
    ++ (place_limits Common (point_of s.exofs) ++ (origin_limits 0 s.origins ++ number_limits s))

unfoldable pub fault_of : Setup → Option Fault
fault_of s = first_broken (limits s)
