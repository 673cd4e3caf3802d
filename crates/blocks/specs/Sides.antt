-- On which side of the way from its start to its end the centre of a block's arc by radius lies. Only proofs/Radius.antt speaks of
-- it, where it is shown of G02 and G03 with R positive and with R negative.
use Rattle.std.specs.Prelude.{◌≡◌, ◌∷◌}
use Rattle.terms.specs.Common.{Bool, true, false, []}
use Rattle.words.specs.{declared.Values.Values, Values.worth}
use Rattle.lengths.specs.{declared.Point.Point, declared.Flat.Flat, Points.flat}
use Rattle.records.specs.declared.{Arc.Arc, Record.Record}
use Rattle.settings.specs.declared.State.{State}
use Rattle.arcs.specs.{Turning.direction, Turning.left, Arcs.centre_of}
use Rattle.centres.specs.Centres.{across, Centre}
use Rattle.blocks.specs.Motions.{Moves, arc_to}

-- start and end, and the way from the one to the other, in the plane that is on
abbrev pub start_in : State → Flat
start_in s = flat s.modes.plane s.at

abbrev pub end_in : State → Point → Flat
end_in s end = flat s.modes.plane end

abbrev pub way_to : State → Point → Flat
way_to s end = direction (start_in s) (end_in s end)

-- The block moves on one arc, whose geometry is accepted. Its centre is the exact one rounded down; that lies from the chord's
-- middle on the way `across` from the chord, and `side` tells to which side this is turned.
pub record OneArc (side : Bool) (make : Arc → Record) (s : State) (v : Values) (end : Point) (moves : Moves) : Type 0 where
  pub made : moves ≡ record { records = make (arc_to side s v end) ∷ []; sound = true }
  pub exact : Centre side (worth v.r).v (start_in s) (end_in s end) (centre_of (arc_to side s v end))

-- the way across is turned to the left, so that it lies to the left of the way from start to end
pub record LeftCentre (make : Arc → Record) (s : State) (v : Values) (end : Point) (moves : Moves) : Type 0 where
  pub arc : OneArc true make s v end moves
  pub side : left (way_to s end) (across true (way_to s end)) ≡ true

-- it is turned to the right: the way from start to end lies to the left of it
pub record RightCentre (make : Arc → Record) (s : State) (v : Values) (end : Point) (moves : Moves) : Type 0 where
  pub arc : OneArc false make s v end moves
  pub side : left (across false (way_to s end)) (way_to s end) ≡ true
