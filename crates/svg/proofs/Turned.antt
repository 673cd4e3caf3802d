-- What the numbers of an arc that is drawn give. Assumes nothing.
use Rattle.terms.proofs.Common.{◌≤◌, ◌≡◌, Bool, true, ◌&&◌, arith, ◌-ℤ◌}
use Rattle.terms.proofs.Laws.{both_left, both_right}
use Rattle.lengths.specs.{declared.Len.Len, Units.fits_four, View.Within, declared.Point.Point, Points.flat}
use Rattle.lengths.proofs.{Laws.diff_bal, Tests.within_near, Four.four_short}
use Rattle.records.specs.declared.Arc.{Arc}
use Rattle.arcs.specs.{Root.Root, Root.root, Arcs.centre_of, Arcs.distance², Arcs.radius², Bounds.Close}
use Rattle.arcs.proofs.{Root.root_is, Root.square_lt, Reach.distance_near}
use Rattle.svg.specs.Turns.{radius_of, near, drawable, Drawable}

near_close : (a b : Len) → near a b ≡ true → Close 1_500_000_000 b a
unfolding near
near_close a b e =
    let h : Within 1_500_000_000 (a.v -ℤ b.v) = within_near 1_500_000_000 (a.v -ℤ b.v) e in omega (arith, h, diff_bal a.v b.v)

six :
    (p q r s t u : Bool) → (p && q && (r && s) && (t && u)) ≡ true
    → (p ≡ true) × (q ≡ true) × (r ≡ true) × (s ≡ true) × (t ≡ true) × (u ≡ true)
six p q r s t u e =
    let four = both_left (p && q && (r && s)) (t && u) e in
    let last = both_right (p && q && (r && s)) (t && u) e in
    let two = both_left (p && q) (r && s) four in
    let next = both_right (p && q) (r && s) four in
    (both_left p q two, both_right p q two, both_left r s next, both_right r s next, both_left t u last, both_right t u last)

module _ (from : Point) (a : Arc) where
  pub drawable_facts : drawable from a ≡ true → Drawable from a
  unfolding drawable
  drawable_facts e =
      let p = flat a.plane from in
      let q = flat a.plane a.end in
      let h =
      six (near p.first a.first) (near p.second a.second) (near q.first a.first) (near q.second a.second) (fits_four a.first.v)
      (fits_four a.second.v) e
      in
      record {
        start = record { first = near_close p.first a.first h.0; second = near_close p.second a.second h.1 };
        end = record { first = near_close q.first a.first h.2; second = near_close q.second a.second h.3 };
        first = four_short a.first.v h.4;
        second = four_short a.second.v h.5;
      }

  -- two squares of at most 1,500,000,000
  pub radius_most : Drawable from a → radius_of from a ≤ 2_147_483_647
  unfolding radius_of radius²
  radius_most h =
      let q = distance² (centre_of a) (flat a.plane from) in
      let most = distance_near (centre_of a) (flat a.plane from) h.start in
      let i : Root q (root q) = root_is q (omega (arith, most)) in
      omega (arith, square_lt (root q) 2_147_483_648 (omega (arith, i.not_above, most)))
