-- Points of a run and how near they are, in the frame of the common offset and in machine units. Assumes nothing.
use Rattle.std.specs.Prelude.{if◌then◌else◌, is_some}
use Rattle.terms.proofs.Common.{ℕ, ◌^◌, ◌≡◌, refl, ap₂, Bool, true, false, not, ◌&&◌, ◌||◌, arith, ℤ, ◌+ℤ◌, le_z}
use Rattle.terms.{specs.Terms.between, proofs.Laws.both_left, proofs.Laws.both_right}
use Rattle.lengths.specs.{Units.fits_four, View.Within, View.Short, declared.Point.Point, declared.Flat.Flat, Points.moved, Points.flat, Points.inside, Near.Near}
use Rattle.lengths.proofs.{Laws.view, Laws.sum_bal, Four.short_four, Near.flat_near}
use Rattle.codes.specs.declared.{Cycle.Cycle, Plane.Plane, Plane.TheVariants.G17, Plane.TheVariants.G18, Plane.TheVariants.G19}
use Rattle.words.specs.{declared.Values.Values, Values.worth}
use Rattle.records.specs.Path.{arc_moved}
use Rattle.setup.specs.{declared.Bed.Bed, Frame.origin_at, Fair.Fair}
use Rattle.settings.{specs.declared.State.State, specs.Target.target, specs.Bounds.Aims, specs.Bounds.KeptNear, proofs.Near.target_near, proofs.Near.or_else_near, proofs.Near.then_near, proofs.Keeping.under_near}
use Rattle.arcs.{specs.Bounds.Reach, specs.Bounds.Beside, specs.Bounds.Bounds, proofs.Paths.inside_near}
use Rattle.centres.{specs.Centres.radius_holds, specs.Centres.centre_by, specs.Bounds.Chord, proofs.Reaching.centre_reach}
use Rattle.cycles.specs.{declared.Hole.Hole, Cycles.hole_of}
use Rattle.letters.specs.declared.BlockCode.{BlockCode, TheVariants.Calling, TheVariants.Returning, TheVariants.Dwelling, TheVariants.Moving}
use Rattle.blocks.specs.{declared.Said.Said, Motions.centre_words, Motions.centre_for, Motions.arc_to, Motions.radius_fits, Exec.kept_by, Exec.working, Reach.Steady}

-- ---- points inside the travel

-- what is within a bound once moved was within that and the move
before_near : (by p : Point) → Near 1_000_000_000 by → Near 100_000_000 (moved by p) → Near 1_100_000_000 p
unfolding moved
before_near by p h k =
    omega (arith, sum_bal p.x.v by.x.v, sum_bal p.y.v by.y.v, sum_bal p.z.v by.z.v)

axis_near :
    (low high z by : ℤ) → between low high z ≡ true → Within 100_000_000 (low +ℤ by) → Within 100_000_000 (high +ℤ by)
    → Within 100_000_000 (z +ℤ by)
axis_near low high z by e l h =
    let f : le_z low z ≡ true = both_left (le_z low z) (le_z z high) e in
    let g : le_z z high ≡ true = both_right (le_z low z) (le_z z high) e in
    omega (arith, view, sum_bal low by, sum_bal high by, sum_bal z by)

module _ (bed : Bed) (fair : Fair bed) where
  pub low_near : Near 1_100_000_000 bed.travel.low
  low_near = before_near bed.offset bed.travel.low fair.offset fair.low

  pub high_near : Near 1_100_000_000 bed.travel.high
  high_near = before_near bed.offset bed.travel.high fair.offset fair.high

  module _ (p : Point) (e : inside bed.travel p ≡ true) where
    pub near_inside : Near 1_100_000_000 p
    near_inside = inside_near bed.travel p low_near high_near e

    -- the same point in machine units
    pub near_machine : Near 100_000_000 (moved bed.offset p)
    unfolding inside moved
    near_machine =
        let t = bed.travel in
        let by = bed.offset in
        let x = between t.low.x.v t.high.x.v p.x.v in
        let y = between t.low.y.v t.high.y.v p.y.v in
        let z = between t.low.z.v t.high.z.v p.z.v in
        let l = fair.low in
        let h = fair.high in
        record {
          x = axis_near t.low.x.v t.high.x.v p.x.v by.x.v (both_left x y (both_left (x && y) z e)) l.x h.x;
          y = axis_near t.low.y.v t.high.y.v p.y.v by.y.v (both_right x y (both_left (x && y) z e)) l.y h.y;
          z = axis_near t.low.z.v t.high.z.v p.z.v by.z.v (both_right (x && y) z e) l.z h.z;
        }

    -- it can be moved by the common offset
    pub inside_sums : (Near (2 ^ 61) bed.offset) × (Near (2 ^ 61) p)
    inside_sums = omega (arith, fair.offset, near_inside)

-- ---- the centre of an arc

module _ (by p : Point) where
  -- a point moved by numbers within a bound is that near on the two axes of a plane
  moved_reach : {n : ℕ} → Near n by → (plane : Plane) → Reach n (flat plane (moved by p)) (flat plane p)
  unfolding moved flat
  moved_reach h G17 = omega (arith, sum_bal p.x.v by.x.v, sum_bal p.y.v by.y.v)
  moved_reach h G18 = omega (arith, sum_bal p.z.v by.z.v, sum_bal p.x.v by.x.v)
  moved_reach h G19 = omega (arith, sum_bal p.y.v by.y.v, sum_bal p.z.v by.z.v)

  -- two points near the machine's zero are near each other, whatever the common offset
  near_beside : (q : Point) → Near 100_000_000 (moved by p) → Near 100_000_000 (moved by q) → Beside 200_000_000 p q
  unfolding moved
  near_beside q h k =
      omega (
        arith,
        sum_bal p.x.v by.x.v,
        sum_bal p.y.v by.y.v,
        sum_bal p.z.v by.z.v,
        sum_bal q.x.v by.x.v,
        sum_bal q.y.v by.y.v,
        sum_bal q.z.v by.z.v,
      )

  -- a centre that is near its start, in machine units
  module _ (c : Flat) (k : Near 100_000_000 (moved by p)) where
    centre_first : (plane : Plane) → Reach 1_000_000_000 c (flat plane p) → Within 1_100_000_000 (c.first.v +ℤ (flat plane by).first.v)
    unfolding moved flat
    centre_first G17 h = omega (arith, sum_bal p.x.v by.x.v, sum_bal c.first.v by.x.v)
    centre_first G18 h = omega (arith, sum_bal p.z.v by.z.v, sum_bal c.first.v by.z.v)
    centre_first G19 h = omega (arith, sum_bal p.y.v by.y.v, sum_bal c.first.v by.y.v)

    centre_second : (plane : Plane) → Reach 1_000_000_000 c (flat plane p) → Within 1_100_000_000 (c.second.v +ℤ (flat plane by).second.v)
    unfolding moved flat
    centre_second G17 h = omega (arith, sum_bal p.y.v by.y.v, sum_bal c.second.v by.y.v)
    centre_second G18 h = omega (arith, sum_bal p.x.v by.x.v, sum_bal c.second.v by.x.v)
    centre_second G19 h = omega (arith, sum_bal p.z.v by.z.v, sum_bal c.second.v by.z.v)

-- the centre of an arc is near its start, by its words and by the radius
module _ (left : Bool) (s : State) (v : Values) (end : Point) where
  abbrev here : Flat
  here = flat s.modes.plane s.at

  abbrev there : Flat
  there = flat s.modes.plane end

  abbrev radius : ℤ
  radius = (worth v.r).v

  pub centre_beside :
      Near 1_100_000_000 s.at → Near 2_100_000_000 end → Within 1_000_000_000 radius → Near 1_000_000_000 (centre_words v)
      → radius_fits s v end ≡ true → Reach 1_000_000_000 (centre_for left s v end) here
  unfolding centre_for radius_fits
  centre_beside near far most words fits = go (is_some v.r) fits
    where
      chord : Chord radius here there
      chord =
          record {
            radius = most;
            start = flat_near s.modes.plane s.at near;
            end = flat_near s.modes.plane end far;
          }

      go :
          (t : Bool) → (not t || radius_holds radius here there) ≡ true
          → Reach 1_000_000_000 (if t then centre_by left radius here there else flat s.modes.plane (moved (centre_words v) s.at)) here
      go true f = centre_reach left radius here there (record { chord = chord; holds = f })
      go false f = moved_reach (centre_words v) s.at words s.modes.plane

-- both coordinates of a centre fit four signed bytes
pub both_fit : (a b : ℤ) → Short a → Short b → (fits_four a && fits_four b) ≡ true
both_fit a b h k = ap₂ ◌&&◌ (short_four a h) (short_four b k)

-- ---- what a motion leads from

module _ (bed : Bed) (s : State) (b : Said) where
  abbrev origin : Point
  origin = origin_at bed b.modes.origin

  abbrev w : State
  w = working s b

  abbrev end : Point
  end = target w.modes.distance origin w.at b.values

  abbrev hole : Cycle → Hole
  hole cycle = hole_of cycle w origin

  module _ (steady : Steady bed s b) where
    pub from_inside : inside bed.travel w.at ≡ true
    unfolding working
    from_inside = steady.state.at

    pub feed_near : Within 1_000_000_000 w.feed.v
    unfolding working
    feed_near = or_else_near 1_000_000_000 b.values.f s.feed steady.said.sizes.f steady.state.feed

    pub speed_near : Within 99_999 w.speed.v
    unfolding working
    speed_near = or_else_near 99_999 b.values.s s.speed steady.said.sizes.s steady.state.speed

    pub aims : Aims origin w.at b.values
    aims =
        record {
          origin = steady.fair.origins b.modes.origin;
          from = near_inside bed steady.fair w.at from_inside;
          x = steady.said.sizes.x;
          y = steady.said.sizes.y;
          z = steady.said.sizes.z;
        }

    -- where the words lead can be moved by the common offset, inside the travel or not
    end_near : Near 2_100_000_000 end
    end_near = target_near w.modes.distance origin w.at b.values aims

    pub target_sums : (Near (2 ^ 61) bed.offset) × (Near (2 ^ 61) end)
    target_sums = omega (arith, steady.fair.offset, end_near)

    code_kept : (code : BlockCode) → b.code ≡ code → KeptNear (kept_by code s b.modes.distance b.values)
    unfolding kept_by
    code_kept Calling e = steady.state.kept
    code_kept Returning e = steady.state.kept
    code_kept Dwelling e = steady.state.kept
    code_kept (Moving motion) e =
        let sizes = steady.said.sizes in
        under_near s b.modes.distance b.values (near_inside bed steady.fair s.at steady.state.at).z steady.state.kept motion
        sizes.z sizes.r (sizes.moving motion e)

    pub kept_near : KeptNear w.kept
    unfolding working
    kept_near = code_kept b.code refl

    module _ (cycle : Cycle) where
      pub hole_feed : Short (hole cycle).feed.v
      unfolding hole_of
      hole_feed = omega (arith, feed_near)

      pub hole_dwell : Short (worth (hole cycle).dwell).v
      unfolding hole_of
      hole_dwell = omega (arith, then_near {n = 3_600_000} w.kept.stands.dwell w.kept.dwell kept_near.dwell)

    from_machine : Near 100_000_000 (moved bed.offset w.at)
    from_machine = near_machine bed steady.fair w.at from_inside

    words_near : Near 1_000_000_000 (centre_words b.values)
    unfolding centre_words
    words_near = record { x = steady.said.sizes.i; y = steady.said.sizes.j; z = steady.said.sizes.k }

    -- ---- an arc to the end, whose centre lies on one side or the other

    module _ (left : Bool) (fits : radius_fits w b.values end ≡ true) where
      abbrev start : Flat
      start = flat w.modes.plane w.at

      pub centre_close : Reach 1_000_000_000 (centre_for left w b.values end) start
      centre_close = centre_beside left w b.values end aims.from end_near steady.said.sizes.r words_near fits

      pub bounds : Bounds bed.travel w.at (arc_to left w b.values end)
      unfolding arc_to
      bounds =
          let t = bed.travel in
          let by = bed.offset in
          record {
            centre = centre_close;
            low = near_beside by t.low w.at steady.fair.low from_machine;
            high = near_beside by t.high w.at steady.fair.high from_machine;
          }

      -- the centre in machine units
      pub first_near : Within 1_100_000_000 (arc_moved bed.offset (arc_to left w b.values end)).first.v
      unfolding arc_moved arc_to
      first_near = centre_first bed.offset w.at (centre_for left w b.values end) from_machine w.modes.plane centre_close

      pub second_near : Within 1_100_000_000 (arc_moved bed.offset (arc_to left w b.values end)).second.v
      unfolding arc_moved arc_to
      second_near = centre_second bed.offset w.at (centre_for left w b.values end) from_machine w.modes.plane centre_close
