-- Laws of the paths of records, one list after another, and of where they end. Assumes nothing.
use Rattle.terms.proofs.Common.{◌≡◌, refl, sym, ◌∙◌, ap, Bool, true, ◌&&◌, and_assoc, List, [], ◌∷◌, ◌++◌, ℕ}
use Rattle.terms.{specs.Terms.between, proofs.Laws.both_left, proofs.Laws.both_right}
use Rattle.lengths.{specs.declared.Flat.Flat, specs.declared.Point.Point, specs.declared.Travel.Travel, specs.Points.flat, specs.Points.inside, specs.Near.Near, proofs.Tests.between_near}
use Rattle.records.specs.{declared.Arc.Arc, declared.Record.Record, Path.Path, Path.straight, Path.clockwise, Path.counter, Path.still, Path.path_of, Path.path_end, Path.end_of, Path.path_stays_in}
use Rattle.arcs.specs.{Arcs.centre_of, Arcs.radius², Arcs.extremes_inside, Arcs.left_way, Arcs.right_way, Arcs.arc_stays, Arcs.path_stays, Staying.stays_in}

pub end_append : (from : Point) (a b : List Record) → end_of from (a ++ b) ≡ end_of (end_of from a) b
unfolding end_of
end_append from [] b = refl
end_append from (r ∷ a) b = end_append (path_end from (path_of r)) a b

module _ (t : Travel) where
  pub stays_append : (from : Point) (a b : List Record) → stays_in t from (a ++ b) ≡ (stays_in t from a && stays_in t (end_of from a) b)
  unfolding end_of path_stays_in
  stays_append from [] b = refl
  stays_append from (r ∷ a) b =
      let next = path_end from (path_of r) in
      ap (path_stays t from (path_of r) &&◌) (stays_append next a b)
      ∙ sym (and_assoc (path_stays t from (path_of r)) (stays_in t next a) (stays_in t (end_of next a) b))

  -- records stay where those before do, and those after from there
  pub stays_both :
      (from : Point) (a b : List Record) → stays_in t from (a ++ b) ≡ true
      → (stays_in t from a ≡ true) × (stays_in t (end_of from a) b ≡ true)
  stays_both from a b e =
      let f = sym (stays_append from a b) ∙ e in
      (both_left (stays_in t from a) (stays_in t (end_of from a) b) f, both_right (stays_in t from a) (stays_in t (end_of from a) b) f)

-- a point inside a travel near 0 is as near
pub inside_near : {n : ℕ} (t : Travel) (p : Point) → Near n t.low → Near n t.high → inside t p ≡ true → Near n p
unfolding inside
inside_near {n} t p h k e =
    let x = between t.low.x.v t.high.x.v p.x.v in
    let y = between t.low.y.v t.high.y.v p.y.v in
    let z = between t.low.z.v t.high.z.v p.z.v in
    record {
      x = between_near n t.low.x.v t.high.x.v p.x.v h.x k.x (both_left x y (both_left (x && y) z e));
      y = between_near n t.low.y.v t.high.y.v p.y.v h.y k.y (both_right x y (both_left (x && y) z e));
      z = between_near n t.low.z.v t.high.z.v p.z.v h.z k.z (both_right (x && y) z e);
    }

-- ---- a path that stays ends inside

module _ (t : Travel) where
  pub arc_ends : (from : Point) (way : Point → Arc → Flat → Bool) (a : Arc) → arc_stays way t from a ≡ true → inside t a.end ≡ true
  unfolding arc_stays
  arc_ends from way a e =
      both_left (inside t a.end)
      (extremes_inside (way from a) (centre_of a) (radius² from a) (flat a.plane t.low) (flat a.plane t.high)) e

  path_ends : (from : Point) (path : Path) → inside t from ≡ true → path_stays t from path ≡ true → inside t (path_end from path) ≡ true
  unfolding path_stays path_end
  path_ends from (straight p) h e = e
  path_ends from (clockwise a) h e = arc_ends from right_way a e
  path_ends from (counter a) h e = arc_ends from left_way a e
  path_ends from still h e = h

  pub stays_inside : (from : Point) (rs : List Record) → inside t from ≡ true → stays_in t from rs ≡ true → inside t (end_of from rs) ≡ true
  unfolding path_stays_in end_of
  stays_inside from [] h e = h
  stays_inside from (r ∷ rs) h e =
      let next = path_end from (path_of r) in
      let now = path_stays t from (path_of r) in
      let rest = stays_in t next rs in
      stays_inside next rs (path_ends from (path_of r) h (both_left now rest e)) (both_right now rest e)
