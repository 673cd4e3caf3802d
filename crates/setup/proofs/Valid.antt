-- What a setup that keeps the limits gives: bounds of its lengths, a fair bed, and a start inside the travel. Assumes
-- nothing.
use Rattle.terms.proofs.Common.{ℕ, zero, suc, ◌^◌, ◌≡◌, ◌∙◌, Bool, true, ◌&&◌, List, [], ◌∷◌, map, arith, ℤ, pos, ◌+ℤ◌, ◌-ℤ◌, le_z, length, get_or, length-map}
use Rattle.terms.{specs.Terms.all, specs.Terms.between, specs.Terms.within, proofs.Laws.both_left, proofs.Laws.both_right}
use Rattle.lengths.specs.{Units.len, View.Within, declared.Point.Point, Points.moved, Points.moved_back, Points.inside, Near.Near}
use Rattle.lengths.proofs.{Laws.view, Laws.sum_bal, Laws.diff_bal, Tests.within_near, Tests.between_near}
use Rattle.setup.specs.{declared.Axes.Axes, declared.Setup.Setup, Fair.Fair}
use Rattle.setup.specs.Limits.{axis_fits, travel_fits, axes_within, offsets_fit, feed_fits, speeds_fit, switch_fits, valid_setup}
use Rattle.setup.specs.Frame.{point_of, offset, start_of, travel_of, bed_of, origin_at}

-- ---- one number

both : (a b : Bool) → (a && b) ≡ true → (a ≡ true) × (b ≡ true)
both a b e = (both_left a b e, both_right a b e)

-- a number between two, all three displaced
between_shifted : (a b z d : ℤ) → between a b z ≡ true → between (a -ℤ d) (b -ℤ d) (z -ℤ d) ≡ true
between_shifted a b z d e =
    let low : le_z a z ≡ true = both_left (le_z a z) (le_z z b) e in
    let high : le_z z b ≡ true = both_right (le_z a z) (le_z z b) e in
    let l : le_z (a -ℤ d) (z -ℤ d) ≡ true = omega (arith, view, diff_bal a d, diff_bal z d) in
    let h : le_z (z -ℤ d) (b -ℤ d) ≡ true = omega (arith, view, diff_bal b d, diff_bal z d) in
    rw l h

-- displaced and back again, a number has the bound that it had
back_near : (n : ℕ) (z d : ℤ) → Within n z → Within n ((z -ℤ d) +ℤ d)
back_near n z d h = omega (arith, diff_bal z d, sum_bal (z -ℤ d) d)

-- ---- one axis

record Axis (low high start : ℤ) : Type 0 where
  bottom : Within 100_000_000 low
  top : Within 100_000_000 high
  inside : between low high start ≡ true

axis : (low high start : ℤ) → axis_fits low high start ≡ true → Axis low high start
unfolding axis_fits
axis low high start e =
    let all' = both (le_z low high && within 100_000_000 low && within 100_000_000 high) (between low high start) e in
    let ends = both (le_z low high && within 100_000_000 low) (within 100_000_000 high) all'.0 in
    let order = both (le_z low high) (within 100_000_000 low) ends.0 in
    record {
      bottom = within_near 100_000_000 low order.1;
      top = within_near 100_000_000 high ends.1;
      inside = all'.1;
    }

axes_near : (n : ℕ) (a : Axes) → axes_within n a ≡ true → Near n (point_of a)
unfolding axes_within
axes_near n a e =
    let h = both (within n a.x && within n a.y) (within n a.z) e in
    let g = both (within n a.x) (within n a.y) h.0 in
    record { x = within_near n a.x g.0; y = within_near n a.y g.1; z = within_near n a.z h.1 }

origin_near :
    (n : ℕ) (l : List Axes) → all (axes_within n) l ≡ true
    → (k : ℕ) → Near n (get_or (map point_of l) k (record { x = len (pos 0); y = len (pos 0); z = len (pos 0) }))
unfolding all
origin_near n [] e k = omega arith
origin_near n (a ∷ l) e zero = axes_near n a (both_left (axes_within n a) (all (axes_within n) l) e)
origin_near n (a ∷ l) e (suc k) = origin_near n l (both_right (axes_within n a) (all (axes_within n) l) e) k

-- the common offset and a point of the travel leave their difference room
pub moves :
    (by at : Axes) {b p : Point} → b ≡ point_of by → p ≡ point_of at → Near 1_000_000_000 (point_of by) → Near 100_000_000 (point_of at)
    → (Near (2 ^ 61) b) × (Near (2 ^ 61) p)
moves by at e f h k = rw (e, f) (omega arith)

-- ---- the groups of limits

record Travelled (s : Setup) : Type 0 where
  x : Axis s.low.x s.high.x s.start.x
  y : Axis s.low.y s.high.y s.start.y
  z : Axis s.low.z s.high.z s.start.z

travelled : (s : Setup) → travel_fits s ≡ true → Travelled s
unfolding travel_fits
travelled s e =
    let x = axis_fits s.low.x s.high.x s.start.x in
    let y = axis_fits s.low.y s.high.y s.start.y in
    let z = axis_fits s.low.z s.high.z s.start.z in
    let g = both (x && y) z e in
    let h = both x y g.0 in
    record {
      x = axis s.low.x s.high.x s.start.x h.0;
      y = axis s.low.y s.high.y s.start.y h.1;
      z = axis s.low.z s.high.z s.start.z g.1;
    }

record Turned (s : Setup) : Type 0 where
  lowest : Within 99_999 s.lowest
  highest : Within 99_999 s.highest
  speed : Within 99_999 s.speed

turned : (s : Setup) → speeds_fit s ≡ true → Turned s
unfolding speeds_fit
turned s e =
    let lowest = between (pos 1) (pos 99_999) s.lowest in
    let highest = between (pos 1) (pos 99_999) s.highest in
    let g = both (lowest && highest && le_z s.lowest s.highest) (between s.lowest s.highest s.speed) e in
    let h = both (lowest && highest) (le_z s.lowest s.highest) g.0 in
    let k = both lowest highest h.0 in
    let l : Within 99_999 s.lowest = between_near 99_999 (pos 1) (pos 99_999) s.lowest (omega arith) (omega arith) k.0 in
    let m : Within 99_999 s.highest = between_near 99_999 (pos 1) (pos 99_999) s.highest (omega arith) (omega arith) k.1 in
    record { lowest = l; highest = m; speed = between_near 99_999 s.lowest s.highest s.speed l m g.1 }

feed_near : (s : Setup) → feed_fits s ≡ true → Within 1_000_000_000 s.feed
unfolding feed_fits
feed_near s e = between_near 1_000_000_000 (pos 1) (pos 1_000_000_000) s.feed (omega arith) (omega arith) e

-- ---- a valid setup

module _ (s : Setup) (v : valid_setup s ≡ true) where
  groups : ((travel_fits s ≡ true) × (offsets_fit s ≡ true)) × ((feed_fits s ≡ true) × (speeds_fit s ≡ true))
  unfolding valid_setup
  groups =
      let g = both (travel_fits s && offsets_fit s) (feed_fits s && speeds_fit s && switch_fits s) v in
      let h = both (feed_fits s && speeds_fit s) (switch_fits s) g.1 in
      (both (travel_fits s) (offsets_fit s) g.0, both (feed_fits s) (speeds_fit s) h.0)

  travel : Travelled s
  travel = travelled s groups.0.0

  offsets : (axes_within 1_000_000_000 s.exofs ≡ true) × (all (axes_within 1_000_000_000) s.origins ≡ true)
  unfolding offsets_fit
  offsets = both (axes_within 1_000_000_000 s.exofs) (all (axes_within 1_000_000_000) s.origins) groups.0.1

  pub valid_feed : Within 1_000_000_000 s.feed
  valid_feed = feed_near s groups.1.0

  pub valid_speed : Within 99_999 s.speed
  valid_speed = (turned s groups.1.1).speed

  pub valid_offset : Near 1_000_000_000 (point_of s.exofs)
  valid_offset = axes_near 1_000_000_000 s.exofs offsets.0

  pub valid_low : Near 100_000_000 (point_of s.low)
  valid_low = record { x = travel.x.bottom; y = travel.y.bottom; z = travel.z.bottom }

  pub valid_high : Near 100_000_000 (point_of s.high)
  valid_high = record { x = travel.x.top; y = travel.y.top; z = travel.z.top }

  pub valid_start : Near 100_000_000 (point_of s.start)
  valid_start =
      let near : (low high at : ℤ) → Axis low high at → Within 100_000_000 at = λ low high at a. between_near 100_000_000 low high at a.bottom a.top a.inside in
      record {
        x = near s.low.x s.high.x s.start.x travel.x;
        y = near s.low.y s.high.y s.start.y travel.y;
        z = near s.low.z s.high.z s.start.z travel.z;
      }

  -- the travel's ends and the table of six, as a block sees them
  pub fair : length s.origins ≡ 6 → Fair (bed_of s)
  unfolding bed_of travel_of offset moved moved_back origin_at
  fair six =
      let low = valid_low in
      let high = valid_high in
      record {
        offset = valid_offset;
        low =
            record {
              x = back_near 100_000_000 s.low.x s.exofs.x low.x;
              y = back_near 100_000_000 s.low.y s.exofs.y low.y;
              z = back_near 100_000_000 s.low.z s.exofs.z low.z;
            };
        high =
            record {
              x = back_near 100_000_000 s.high.x s.exofs.x high.x;
              y = back_near 100_000_000 s.high.y s.exofs.y high.y;
              z = back_near 100_000_000 s.high.z s.exofs.z high.z;
            };
        places = length-map s.origins point_of ∙ six;
        origins = origin_near 1_000_000_000 s.origins offsets.1;
        lowest = (turned s groups.1.1).lowest;
        highest = (turned s groups.1.1).highest;
      }

  -- a run starts inside the travel
  pub start_inside : inside (travel_of s) (start_of s) ≡ true
  unfolding inside travel_of start_of offset moved_back
  start_inside =
      let x = between_shifted s.low.x s.high.x s.start.x s.exofs.x travel.x.inside in
      let y = between_shifted s.low.y s.high.y s.start.y s.exofs.y travel.y.inside in
      let z = between_shifted s.low.z s.high.z s.start.z s.exofs.z travel.z.inside in
      together x y z
    where
      together : {a b c : Bool} → a ≡ true → b ≡ true → c ≡ true → (a && b && c) ≡ true
      together e f g = rw (e, f, g)
