-- Document 02, #101: arcs by their radius. R stands for the centre words. Where the radius is accepted, nothing else of the arc's
-- geometry refuses it, whatever the plane. And G02 and G03, with R positive and with R negative, have the centre on the side that
-- makes it the arc of at most half a turn or the larger one. Assumes nothing.
use Rattle.std.specs.Prelude.{if◌then◌else◌, is_some}
use Rattle.terms.proofs.Common.{◌<◌, ◌≡◌, refl, sym, subst, ap, ◌∙◌, Bool, true, false, not, ◌&&◌, ◌||◌, or-true, and-false, [], ◌∷◌, arith, ℤ, pos, lt_z}
use Rattle.lengths.{specs.View.Within, specs.declared.Point.Point, specs.Points.moved, specs.Points.flat, proofs.Laws.view}
use Rattle.codes.specs.declared.Motion.{Motion, TheVariants.Off, TheVariants.G00, TheVariants.G01, TheVariants.G02, TheVariants.G03, TheVariants.Drilling}
use Rattle.words.specs.{declared.Values.Values, Values.worth}
use Rattle.records.specs.declared.{Arc.Arc, Record.Record, Record.TheVariants.AR, Record.TheVariants.AL}
use Rattle.settings.specs.{declared.State.State, Target.target}
use Rattle.arcs.specs.Arcs.{distance², centre_of, radius², arc_holds}
use Rattle.centres.specs.{Centres.radius_holds, Centres.Centre, Centres.centre_by, Nearness.Nearby}
use Rattle.centres.proofs.{Accepted.chord_some, Sides.across_left, Sides.across_right, Rounding.centre_is, Nearness.centre_near, Nearness.radius_arc_holds}
use Rattle.blocks.specs.{Exec.lacks_centre, Sides.start_in, Sides.end_in, Sides.OneArc, Sides.LeftCentre, Sides.RightCentre}
use Rattle.blocks.specs.Motions.{Moves, end_stands, centre_given, arc_stands, centre_words, centre_for, arc_to, radius_fits, impossible, arc_moves, is_larger, motion_of}

-- ---- R gives the centre

module _ (v : Values) (stands : is_some v.r ≡ true) where
  pub centre_given_lem : centre_given v ≡ true
  centre_given_lem = ap (λ t. is_some v.i || is_some v.j || is_some v.k || t) stands ∙ or-true (is_some v.i || is_some v.j || is_some v.k)

  -- so a block with R is not mode only
  arc_stands_lem : arc_stands v ≡ true
  arc_stands_lem = ap (λ t. end_stands v || t) centre_given_lem ∙ or-true (end_stands v)

  -- "3 needs R missing too"
  none_lacks : (end_stands v && not (centre_given v)) ≡ false
  none_lacks = ap (λ t. end_stands v && not t) centre_given_lem ∙ and-false (end_stands v)

  pub radius_suffices : (motion : Motion) → lacks_centre motion v ≡ false
  unfolding lacks_centre
  radius_suffices Off = refl
  radius_suffices G00 = refl
  radius_suffices G01 = refl
  radius_suffices G02 = none_lacks
  radius_suffices G03 = none_lacks
  radius_suffices (Drilling cycle) = refl

-- ---- an arc whose radius is accepted, in the plane that is on

radius_holds_lem :
    (s : State) (v : Values) (end : Point) → is_some v.r ≡ true → radius_fits s v end ≡ true
    → radius_holds (worth v.r).v (start_in s) (end_in s end) ≡ true
unfolding radius_fits
radius_holds_lem s v end stands fits = sym (ap (λ t. not t || radius_holds (worth v.r).v (start_in s) (end_in s end)) stands) ∙ fits

module _ (left : Bool) (s : State) (v : Values) (end : Point) where
  abbrev arc : Arc
  arc = arc_to left s v end

  abbrev r : ℤ
  r = (worth v.r).v

  module _ (stands : is_some v.r ≡ true) (small : Within 1_000_000_000 r) (fits : radius_fits s v end ≡ true) where
    -- its centre is the exact one, rounded down
    pub radius_exact : Centre left r (start_in s) (end_in s end) (centre_of arc)
    unfolding arc_to centre_for
    radius_exact =
        let by = centre_by left r (start_in s) (end_in s end) in
        let other = flat s.modes.plane (moved (centre_words v) s.at) in
        subst (λ (t : Bool). Centre left r (start_in s) (end_in s end) (if t then by else other)) (sym stands)
        (centre_is left r (start_in s) (end_in s end) small (radius_holds_lem s v end stands fits))

    -- start and end are each less than two units nearer to it or farther from it than the radius
    pub radius_near : Nearby r (start_in s) (end_in s end) (centre_of arc)
    radius_near = centre_near left r (start_in s) (end_in s end) (centre_of arc) (radius_holds_lem s v end stands fits) radius_exact

    radius_round : arc_holds s.at arc ≡ true
    unfolding arc_holds radius² arc_to
    radius_round =
        radius_arc_holds left r (start_in s) (end_in s end) (centre_of arc) small (radius_holds_lem s v end stands fits) radius_exact

    -- so there is such an arc, and "r under 2,000" and the end's tolerance do not refuse it
    pub radius_moves : (make : Arc → Record) → arc_moves make left s v end ≡ record { records = make arc ∷ []; sound = true }
    unfolding arc_moves
    radius_moves make =
        let moves : Bool → Moves = λ t. record { records = make arc ∷ []; sound = t } in
        ap (λ t. if t then moves (arc_holds s.at arc) else impossible) fits ∙ ap moves radius_round

    pub radius_sound : (make : Arc → Record) → (arc_moves make left s v end).sound ≡ true
    radius_sound make = ap (λ moves. moves.sound) (radius_moves make)

    one_arc : (make : Arc → Record) (moves : Moves) → moves ≡ arc_moves make left s v end → OneArc left make s v end moves
    one_arc make moves e = record { made = e ∙ radius_moves make; exact = radius_exact }

-- ---- On which side the centre lies. Turning left about a centre on the left is at most half a turn, and about one on the right it
-- is more; turning right it is the other way round (`end-left` and `end-right` of `centres`).

module _ (named : Bool) (s : State) (origin : Point) (v : Values) where
  abbrev end : Point
  end = target s.modes.distance origin s.at v

  module _ (stands : is_some v.r ≡ true) (small : Within 1_000_000_000 (worth v.r).v) (fits : radius_fits s v end ≡ true) where
    differ : 0 < distance² (start_in s) (end_in s end)
    differ = chord_some (worth v.r).v (start_in s) (end_in s end) (radius_holds_lem s v end stands fits)

    to_left : (make : Arc → Record) (moves : Moves) → moves ≡ arc_moves make true s v end → LeftCentre make s v end moves
    to_left make moves e =
        record { arc = one_arc true s v end stands small fits make moves e; side = across_left (start_in s) (end_in s end) differ }

    to_right : (make : Arc → Record) (moves : Moves) → moves ≡ arc_moves make false s v end → RightCentre make s v end moves
    to_right make moves e =
        record { arc = one_arc false s v end stands small fits make moves e; side = across_right (start_in s) (end_in s end) differ }

    -- the motion where R stands, by whether R asks for the larger arc
    g02_by_radius : (larger : Bool) → is_larger v ≡ larger → motion_of G02 named s origin v ≡ arc_moves AR larger s v end
    unfolding motion_of
    g02_by_radius larger e = rw (arc_stands_lem v stands, e)

    g03_by_radius : (larger : Bool) → is_larger v ≡ larger → motion_of G03 named s origin v ≡ arc_moves AL (not larger) s v end
    unfolding motion_of
    g03_by_radius larger e = rw (arc_stands_lem v stands, e)

    -- R positive: G02 turns right about a centre on the right, G03 left about one on the left
    module _ (positive : lt_z (pos 0) (worth v.r).v ≡ true) where
      not_larger : is_larger v ≡ false
      not_larger = omega (arith, view, positive)

      pub g02_positive : RightCentre AR s v end (motion_of G02 named s origin v)
      g02_positive = to_right AR (motion_of G02 named s origin v) (g02_by_radius false not_larger)

      pub g03_positive : LeftCentre AL s v end (motion_of G03 named s origin v)
      g03_positive = to_left AL (motion_of G03 named s origin v) (g03_by_radius false not_larger)

    -- R negative: the other two
    module _ (negative : lt_z (worth v.r).v (pos 0) ≡ true) where
      pub g02_negative : LeftCentre AR s v end (motion_of G02 named s origin v)
      g02_negative = to_left AR (motion_of G02 named s origin v) (g02_by_radius true negative)

      pub g03_negative : RightCentre AL s v end (motion_of G03 named s origin v)
      g03_negative = to_right AL (motion_of G03 named s origin v) (g03_by_radius true negative)
