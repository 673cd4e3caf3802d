-- Start and end displaced by whole numbers displace the centre by the same, since whole numbers pass through the rounding, and the
-- same radii are accepted: of two points of a plane, and of two points of space in each of the three planes. Assumes nothing.
use Rattle.terms.proofs.Common.{ℕ, ◌≡◌, refl, Bool, arith, ℤ, ◌+ℤ◌}
use Rattle.lengths.specs.{Units.halved, Units.◌⊕◌, declared.Flat.Flat, declared.Point.Point, Points.moved, Points.flat}
use Rattle.lengths.proofs.{Laws.view, Laws.sum_bal, Laws.halved_over, Laws.halved_under, Ring.var, Ring.◌⊞◌, Ring.same, Ring.shift}
use Rattle.codes.specs.declared.Plane.{Plane, TheVariants.G17, TheVariants.G18, TheVariants.G19}
use Rattle.arcs.specs.{Turning.direction, Arcs.distance²}
use Rattle.centres.specs.Centres.{radius_holds, across, spare, scaled_root, coordinate, centre_by}

-- a point of a plane displaced by the numbers of another
abbrev pub flat_moved : Flat → Flat → Flat
flat_moved by p = record { first = p.first ⊕ by.first; second = p.second ⊕ by.second }

halved_displaced : (z by : ℤ) → halved (z +ℤ (by +ℤ by)) ≡ halved z +ℤ by
halved_displaced z by =
    let y = z +ℤ (by +ℤ by) in
    omega (
      arith,
      view,
      halved_over y,
      halved_under y,
      halved_over z,
      halved_under z,
      sum_bal z (by +ℤ by),
      sum_bal by by,
      sum_bal (halved z) by,
    )

together : (s e by z : ℤ) → s +ℤ by +ℤ (e +ℤ by) +ℤ z ≡ s +ℤ e +ℤ z +ℤ (by +ℤ by)
together s e by z = same (var s ⊞ var by ⊞ (var e ⊞ var by) ⊞ var z) (var s ⊞ var e ⊞ var z ⊞ (var by ⊞ var by)) (omega arith)

coordinate_displaced : (by s e q : ℤ) (n d : ℕ) → coordinate (s +ℤ by +ℤ (e +ℤ by)) q n d ≡ coordinate (s +ℤ e) q n d +ℤ by
unfolding coordinate
coordinate_displaced by s e q n d =
    let z = scaled_root q n d in
    rw (together s e by z) (halved_displaced (s +ℤ e +ℤ z) by)

pub direction_displaced : (by s e : Flat) → direction (flat_moved by s) (flat_moved by e) ≡ direction s e
unfolding direction
direction_displaced by s e =
    rw (shift e.first.v s.first.v by.first.v, shift e.second.v s.second.v by.second.v)

pub distance_displaced : (by s e : Flat) → distance² (flat_moved by s) (flat_moved by e) ≡ distance² s e
unfolding distance²
distance_displaced by s e =
    rw (shift e.first.v s.first.v by.first.v, shift e.second.v s.second.v by.second.v)

pub radius_displaced : (r : ℤ) (by s e : Flat) → radius_holds r (flat_moved by s) (flat_moved by e) ≡ radius_holds r s e
unfolding radius_holds
radius_displaced r by s e = rw (distance_displaced by s e)

pub centre_displaced :
    (left : Bool) (r : ℤ) (by s e : Flat)
    → centre_by left r (flat_moved by s) (flat_moved by e) ≡ flat_moved by (centre_by left r s e)
unfolding centre_by spare
centre_displaced left r by s e =
    let q = across left (direction s e) in
    let n = spare r s e in
    let d = distance² s e in
    let f = coordinate_displaced by.first.v s.first.v e.first.v q.first.v n d in
    let g = coordinate_displaced by.second.v s.second.v e.second.v q.second.v n d in
    rw (direction_displaced by s e, distance_displaced by s e, f, g)

-- ---- points of space, seen in a plane

pub flat_moved_lem : (plane : Plane) (by p : Point) → flat plane (moved by p) ≡ flat_moved (flat plane by) (flat plane p)
unfolding flat moved
flat_moved_lem G17 by p = refl
flat_moved_lem G18 by p = refl
flat_moved_lem G19 by p = refl

module _ (plane : Plane) (r : ℤ) (by a b : Point) where
  pub plane_radius_displaced : radius_holds r (flat plane (moved by a)) (flat plane (moved by b)) ≡ radius_holds r (flat plane a) (flat plane b)
  plane_radius_displaced =
      rw (flat_moved_lem plane by a, flat_moved_lem plane by b) (radius_displaced r (flat plane by) (flat plane a) (flat plane b))

  pub plane_centre_displaced :
      (left : Bool) → centre_by left r (flat plane (moved by a)) (flat plane (moved by b))
      ≡ flat_moved (flat plane by) (centre_by left r (flat plane a) (flat plane b))
  plane_centre_displaced left =
      rw (flat_moved_lem plane by a, flat_moved_lem plane by b) (centre_displaced left r (flat plane by) (flat plane a) (flat plane b))
