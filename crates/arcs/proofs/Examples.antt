-- Which extremes are inside, by computation. Assumes nothing.
use Rattle.terms.proofs.Common.{ℕ, ◌≡◌, refl, Bool, true, false, pos}
use Rattle.lengths.specs.{Units.len, declared.Point.Point}
use Rattle.codes.specs.declared.Plane.TheVariants.{G17}
use Rattle.records.specs.{declared.Arc.Arc, Path.Path, Path.clockwise, Path.counter}
use Rattle.arcs.specs.Arcs.{path_stays}
use Rattle.arcs.proofs.Opened.{opened}

abbrev at : ℕ → ℕ → Point
at x y = record { x = len (pos x); y = len (pos y); z = len (pos 0) }

-- an arc about X50 Y20 in a travel
abbrev stays : (Arc → Path) → Point → Point → Point → Point → Bool
stays turn from end low high =
    path_stays (record { low = low; high = high }) from
    (turn (record { plane = G17; end = end; first = len (pos 50); second = len (pos 20); feed = len (pos 1) }))

-- Clockwise from X65 Y21 to an end below, and its mirror image: the path passes one extreme, near X65.03 Y20 or X34.97 Y20.
abbrev right : Point → Point → Point → Bool
right = stays clockwise (at 65 21)

abbrev left : Point → Point → Point → Bool
left = stays counter (at 35 21)

-- the other axis: the extreme is at Y20
pub beside_inside : right (at 57 7) (at 0 0) (at 100 20) ≡ true
unfolding opened
beside_inside = refl

pub beside_outside : right (at 57 7) (at 0 0) (at 100 10) ≡ false
unfolding opened
beside_outside = refl

-- its own axis, past the travel's end on its side
pub right_inside : right (at 57 7) (at 0 0) (at 66 20) ≡ true
unfolding opened
right_inside = refl

pub right_outside : right (at 57 7) (at 0 0) (at 65 20) ≡ false
unfolding opened
right_outside = refl

pub left_inside : left (at 43 7) (at 34 0) (at 100 20) ≡ true
unfolding opened
left_inside = refl

pub left_outside : left (at 43 7) (at 35 0) (at 100 20) ≡ false
unfolding opened
left_outside = refl

-- and not as far as the travel's other end, where the arc's end lies further out than the circle
pub right_reaches : right (at 80 7) (at 65 0) (at 100 20) ≡ true
unfolding opened
right_reaches = refl

pub right_short : right (at 80 7) (at 66 0) (at 100 20) ≡ false
unfolding opened
right_short = refl

pub left_reaches : left (at 20 7) (at 0 0) (at 35 20) ≡ true
unfolding opened
left_reaches = refl

pub left_short : left (at 20 7) (at 0 0) (at 34 20) ≡ false
unfolding opened
left_short = refl
