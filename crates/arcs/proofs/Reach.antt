-- What the bounds of a run give: the squared radius and the root are small, an end that is accepted is near the centre, and
-- the extremes can be tested. Assumes nothing.
use Rattle.terms.proofs.Common.{ℕ, ◌+◌, ◌-◌, ◌*◌, ◌≤◌, ◌<◌, ◌≡◌, true, false, ◌&&◌, and-false, mul-le-mul, arith, leb, ◌-ℤ◌, nat_abs, leb-true, lt-leb}
use Rattle.terms.proofs.Laws.{both_right}
use Rattle.lengths.specs.{View.Within, declared.Point.Point, declared.Flat.Flat, declared.Travel.Travel, Points.flat}
use Rattle.lengths.proofs.Laws.{diff_bal, sq_near, near_sq}
use Rattle.codes.specs.declared.Plane.{Plane, TheVariants.G17, TheVariants.G18, TheVariants.G19}
use Rattle.records.specs.declared.Arc.{Arc}
use Rattle.arcs.specs.{Root.Root, Root.root, Arcs.distance², Arcs.centre_of, Arcs.radius², Arcs.round_enough, Arcs.arc_holds}
use Rattle.arcs.specs.Bounds.{Reach, Beside, Small, Bounds, Framed}
use Rattle.arcs.proofs.Root.{root_is, square_lt}

-- two points of a plane that are at most n apart on each axis
pub distance_near : {n : ℕ} (a b : Flat) → Reach n a b → distance² a b ≤ n * n + n * n
unfolding distance²
distance_near {n} a b h =
    let f : Within n (b.first.v -ℤ a.first.v) = omega (arith, diff_bal b.first.v a.first.v) in
    let s : Within n (b.second.v -ℤ a.second.v) = omega (arith, diff_bal b.second.v a.second.v) in
    omega (arith, sq_near (b.first.v -ℤ a.first.v) f, sq_near (b.second.v -ℤ a.second.v) s)

-- and two points whose squared distance is at most n * n
pub near_distance : {n : ℕ} (a b : Flat) → distance² a b ≤ n * n → Reach n a b
unfolding distance²
near_distance {n} a b h =
    let f : Within n (b.first.v -ℤ a.first.v) = near_sq (b.first.v -ℤ a.first.v) (omega arith) in
    let s : Within n (b.second.v -ℤ a.second.v) = near_sq (b.second.v -ℤ a.second.v) (omega arith) in
    omega (arith, diff_bal b.first.v a.first.v, diff_bal b.second.v a.second.v)

-- the end's tolerance
round_near : (r end² : ℕ) → round_enough r end² ≡ true → end² ≤ (r + 1_000) * (r + 1_000)
unfolding round_enough
round_near r end² e =
    let most = (r + 1_000) * (r + 1_000) in
    leb-true end² most (both_right (leb 2_000 r && leb ((r - 1_000) * (r - 1_000)) end²) (leb end² most) e)

far_not_round : (r end² : ℕ) → (r + 1_000) * (r + 1_000) < end² → round_enough r end² ≡ false
unfolding round_enough
far_not_round r end² h = rw (lt-leb end² ((r + 1_000) * (r + 1_000)) h, and-false)

module _ (from : Point) (a : Arc) where
  -- an end that is further than r + 1,000 from the centre on one axis is refused
  pub first_refused :
      root (radius² from a) + 1_000 < nat_abs ((flat a.plane a.end).first.v -ℤ a.first.v) → arc_holds from a ≡ false
  unfolding arc_holds distance²
  first_refused h =
      far_not_round (root (radius² from a)) (distance² (centre_of a) (flat a.plane a.end)) (omega (arith, mul-le-mul h h))

  pub second_refused :
      root (radius² from a) + 1_000 < nat_abs ((flat a.plane a.end).second.v -ℤ a.second.v) → arc_holds from a ≡ false
  unfolding arc_holds distance²
  second_refused h =
      far_not_round (root (radius² from a)) (distance² (centre_of a) (flat a.plane a.end)) (omega (arith, mul-le-mul h h))

  module _ (h : Reach 1_000_000_000 (centre_of a) (flat a.plane from)) where
    -- two squares of at most 1,000,000,000
    radius_near : radius² from a ≤ 2_000_000_000_000_000_000
    unfolding radius²
    radius_near = omega (arith, distance_near (centre_of a) (flat a.plane from) h)

    pub root_near : root (radius² from a) ≤ 1_414_213_562
    root_near =
        let q = radius² from a in
        let i : Root q (root q) = root_is q (omega (arith, radius_near)) in
        omega (arith, square_lt (root q) 1_414_213_563 (omega (arith, i.not_above, radius_near)))

    -- an end that is accepted lies at most 1,414,214,562 from the centre
    pub end_near : arc_holds from a ≡ true → Reach 2_147_483_647 (centre_of a) (flat a.plane a.end)
    unfolding arc_holds
    end_near e =
        let r = root (radius² from a) in
        let d = distance² (centre_of a) (flat a.plane a.end) in
        let k = near_distance {n = r + 1_000} (centre_of a) (flat a.plane a.end) (round_near r d e) in
        omega (arith, k, root_near)

-- points that are beside each other are so in each plane
flat_beside : {n : ℕ} (plane : Plane) (p q : Point) → Beside n p q → Reach n (flat plane p) (flat plane q)
unfolding flat
flat_beside G17 p q h = omega arith
flat_beside G18 p q h = omega arith
flat_beside G19 p q h = omega arith

-- the travel's ends are at most 1,200,000,000 from the centre
pub bounds_framed :
    (t : Travel) (from : Point) (a : Arc) (u w : Flat) → Bounds t from a → Small u → Small w
    → Framed u w (centre_of a) (flat a.plane t.low) (flat a.plane t.high)
bounds_framed t from a u w b f s =
    let l = flat_beside a.plane t.low from b.low in
    let k = flat_beside a.plane t.high from b.high in
    record { start = f; end = s; below = omega (arith, b.centre, l); above = omega (arith, b.centre, k) }
