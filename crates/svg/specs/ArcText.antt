-- "Arcs as arcs": an arc as SVG text, in units, seen from above or from the side.
use Rattle.std.specs.Prelude.{if◌then◌else◌}
use Rattle.terms.specs.Common.{ℕ, zero, suc, Bool, true, false, not, List, [], pos}
use Rattle.terms.specs.Terms.{bytes}
use Rattle.lengths.specs.{Units.len, View.Within, declared.Point.Point, declared.Flat.Flat, Points.flat}
use Rattle.codes.specs.declared.Plane.{Plane, TheVariants.G17, TheVariants.G18, TheVariants.G19}
use Rattle.records.specs.declared.Arc.{Arc}
use Rattle.arcs.specs.{Turning.direction, Turning.on_left_way, Arcs.centre_of, Arcs.towards, Bounds.Small}
use Rattle.svg.specs.{declared.View.View, declared.View.TheVariants.Above, declared.View.TheVariants.Side, Text.◌⧺◌, Text.filled, Lines.seen_from, Lines.line, declared.SeenArc.SeenArc}
use Rattle.svg.specs.Turns.{quarter_on, soon, point_on, radius_of, drawable, Drawable}

-- an arc is seen round from above in G17, and from the side in G18
unfoldable pub is_round : View → Plane → Bool
is_round Above G17 = true
is_round Above G18 = false
is_round Above G19 = false
is_round Side G17 = false
is_round Side G18 = true
is_round Side G19 = false

-- from X to Z is against G18's own order, so that its left is the picture's right
unfoldable pub turn_seen : View → Bool → Bool
turn_seen Above turn = turn
turn_seen Side turn = not turn

-- an arc as it is seen, with the directions from its centre to its two ends
unfoldable pub seen_arc : View → Point → Arc → Bool → SeenArc
seen_arc view from a turn =
    record {
      view = view;
      from = from;
      arc = a;
      turn = turn;
      start = direction (centre_of a) (flat a.plane from);
      end = direction (centre_of a) (flat a.plane a.end);
      radius = len (pos (radius_of from a));
    }

-- its numbers leave room for what is worked out of them
pub record Ready (s : SeenArc) : Type 0 where
  pub drawable : Drawable s.from s.arc
  pub start : Small s.start
  pub end : Small s.end
  pub radius : Within 2_147_483_647 s.radius.v

module _ (s : SeenArc) where
  -- On along the circle, at most half a turn: SVG's arc by its two radii, with its last flag for the turn from the first axis to
  -- the second, which is to the left where the second axis is up.
  unfoldable pub piece : Flat → List ℕ
  piece to =
      let radii : Flat = record { first = s.radius; second = s.radius } in
      if turn_seen s.view s.turn then filled (bytes "A_ _ 0 0 1 _ _") radii to else filled (bytes "A_ _ 0 0 0 _ _") radii to

  -- where a direction from the centre leads, as it is seen
  unfoldable pub seen_on : Flat → Flat
  seen_on d = seen_from s.view (point_on s.from s.arc d)

  -- From quarter to quarter of a turn, until the end is at most a quarter on: three at most. In pieces as short as that, an end
  -- that is off the circle by what the rules allow does not bend the others.
  unfoldable pub quarters : ℕ → Flat → List ℕ
  quarters zero d = []
  quarters (suc n) d =
      if soon s.turn d s.end then [] else (piece (seen_on (quarter_on s.turn d)) ⧺ quarters n (quarter_on s.turn d))

  -- the directions that the path passes: to the left from its start to its end, or to the right
  unfoldable pub passes : Flat → Bool
  passes d = if s.turn then on_left_way s.start s.end d else on_left_way s.end s.start d

  -- Seen from its edge, an arc is a straight line out to those of its four axis extremes that it passes.
  unfoldable pub extreme : Flat → List ℕ
  extreme e = if passes e then filled (bytes "L_ _") (seen_on e) (seen_on e) else []

  unfoldable pub extremes : ℕ → Flat → List ℕ
  extremes zero e = []
  extremes (suc n) e = extreme e ⧺ extremes n (quarter_on true e)

  -- from the start on, round or from the edge, to the end
  unfoldable pub bend : List ℕ
  bend =
      let end = seen_from s.view s.arc.end in
      if is_round s.view s.arc.plane then quarters 3 s.start ⧺ piece end
      else (extremes 4 (towards s.radius.v (pos 0)) ⧺ filled (bytes "L_ _") end end)

-- an arc of another list, whose numbers leave no room, is drawn as the straight line between its ends
unfoldable pub arc : View → Point → Arc → Bool → List ℕ
arc view from a turn =
    if drawable from a then
    filled (bytes "<path d=\"M_ _") (seen_from view from) (seen_from view from) ⧺ bend (seen_arc view from a turn) ⧺ bytes "\"/>\n"
    else line (seen_from view from) (seen_from view a.end)
