-- Document 01, "G02, G03": the radius, the end's tolerance, and the path of an arc in the travel.
use Rattle.std.specs.Prelude.{◌+◌, ◌-◌, ◌*◌, ◌&&◌, ◌||◌, ◌-ℤ◌, if◌then◌else◌}
use Rattle.terms.specs.Common.{ℕ, Bool, true, not, leb, ℤ, pos, negsuc, le_z, lt_z}
use Rattle.terms.specs.Terms.{between}
use Rattle.lengths.specs.{Units.len, Units.sq, Units.fits_four, declared.Len.Len, declared.Point.Point, declared.Flat.Flat, declared.Travel.Travel, Points.flat, Points.inside}
use Rattle.records.specs.{declared.Arc.Arc, Path.Path, Path.straight, Path.clockwise, Path.counter, Path.still}
use Rattle.arcs.specs.{Root.root, Turning.direction, Turning.on_left_way}

-- the squared distance of two points of a plane
unfoldable pub distance² : Flat → Flat → ℕ
distance² a b = sq (b.first.v -ℤ a.first.v) + sq (b.second.v -ℤ a.second.v)

abbrev pub centre_of : Arc → Flat
centre_of a = record { first = a.first; second = a.second }

-- the squared start radius of an arc that begins at a point
unfoldable pub radius² : Point → Arc → ℕ
radius² from a = distance² (centre_of a) (flat a.plane from)

-- "r under 2,000 is refused (H), and so is an end whose squared distance from the centre is under (r − 1,000)² or over
-- (r + 1,000)² (H)."
unfoldable pub round_enough : ℕ → ℕ → Bool
round_enough r end² = leb 2_000 r && leb ((r - 1_000) * (r - 1_000)) end² && leb end² ((r + 1_000) * (r + 1_000))

unfoldable pub arc_holds : Point → Arc → Bool
arc_holds from a = round_enough (root (radius² from a)) (distance² (centre_of a) (flat a.plane a.end))

-- An extreme's coordinate on its axis is the centre's plus or minus the root of the squared radius. Such numbers are compared
-- exactly, by squares: a plus the root of q is not above b, and it is not below b.
unfoldable pub not_above : Len → ℕ → Len → Bool
not_above a q b = le_z a.v b.v && leb q (sq (b.v -ℤ a.v))

unfoldable pub not_below : Len → ℕ → Len → Bool
not_below a q b = le_z b.v a.v || leb (sq (b.v -ℤ a.v)) q

-- An extreme's coordinate on one axis lies between the travel's ends; `way` is its direction's number on that axis. Upward
-- the coordinate is the centre's plus the root, downward the centre's minus the root (tested with the root on the other side: low plus
-- the root is not above the centre, high plus the root is not below it), and else the centre's.
unfoldable pub coordinate_inside : ℤ → Len → ℕ → Len → Len → Bool
coordinate_inside way centre q low high =
    if lt_z (pos 0) way then not_below centre q low && not_above centre q high
    else (if lt_z way (pos 0) then not_above low q centre && not_below high q centre
    else between low.v high.v centre.v)

-- The circle's extreme in an axis direction is inside: both its coordinates are. Across the plane an arc does not move, so there
-- the extreme is where the arc's end is, which is tested by itself.
unfoldable pub extreme_inside : Flat → ℕ → Flat → Flat → Flat → Bool
extreme_inside centre q low high d =
    coordinate_inside d.first.v centre.first q low.first high.first
    && coordinate_inside d.second.v centre.second q low.second high.second

-- the four axis directions
abbrev pub towards : ℤ → ℤ → Flat
towards a b = record { first = len a; second = len b }

-- "each of the four axis extremes whose direction lies on the path, ends counted, is inside": `on` tells the directions
unfoldable pub extremes_inside : (Flat → Bool) → Flat → ℕ → Flat → Flat → Bool
extremes_inside on centre q low high =
    let stays : Flat → Bool = λ d. not (on d) || extreme_inside centre q low high d in
    stays (towards (pos 1) (pos 0))
    && stays (towards (pos 0) (pos 1))
    && stays (towards (negsuc 0) (pos 0))
    && stays (towards (pos 0) (negsuc 0))

-- The directions of the path: "G03 turns from the plane's first axis to its second, G02 the other way." "The path is the
-- start's circle from the start's direction to the end's".
unfoldable pub left_way : Point → Arc → Flat → Bool
left_way from a =
    on_left_way (direction (centre_of a) (flat a.plane from)) (direction (centre_of a) (flat a.plane a.end))

unfoldable pub right_way : Point → Arc → Flat → Bool
right_way from a =
    on_left_way (direction (centre_of a) (flat a.plane a.end)) (direction (centre_of a) (flat a.plane from))

-- "In the travel means: the end is inside, and each of the four axis extremes .. is inside."
unfoldable pub arc_stays : (Point → Arc → Flat → Bool) → Travel → Point → Arc → Bool
arc_stays path t from a =
    inside t a.end
    && extremes_inside (path from a) (centre_of a) (radius² from a) (flat a.plane t.low) (flat a.plane t.high)

-- A path that begins at a point stays in the travel.
unfoldable pub path_stays : Travel → Point → Path → Bool
path_stays t from (straight p) = inside t p
path_stays t from (clockwise a) = arc_stays right_way t from a
path_stays t from (counter a) = arc_stays left_way t from a
path_stays t from still = true

-- "Arc centre does not fit four signed bytes", where the path is in machine units
unfoldable pub centre_fits : Path → Bool
centre_fits (straight p) = true
centre_fits (clockwise a) = fits_four a.first.v && fits_four a.second.v
centre_fits (counter a) = fits_four a.first.v && fits_four a.second.v
centre_fits still = true
