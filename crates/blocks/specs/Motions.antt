-- Document 01, "G00, G01", "G02, G03", "Cycles", "P as dwell": the motion or the dwell of a block.
use Rattle.std.specs.Prelude.{◌||◌, ◌∷◌, if◌then◌else◌, is_some}
use Rattle.terms.specs.Common.{Bool, true, false, not, List, [], pos, lt_z}
use Rattle.codes.specs.declared.{Cycle.Cycle, Motion.Motion}
use Rattle.codes.specs.declared.Motion.TheVariants.{Off, G00, G01, G02, G03, Drilling}
use Rattle.words.specs.{declared.Values.Values, Values.worth}
use Rattle.lengths.specs.{declared.Point.Point, declared.Flat.Flat, Points.moved, Points.flat}
use Rattle.records.specs.declared.{Arc.Arc, Record.Record, Record.TheVariants.RP, Record.TheVariants.LN, Record.TheVariants.AR, Record.TheVariants.AL, Record.TheVariants.DW}
use Rattle.settings.specs.{declared.State.State, Target.target}
use Rattle.arcs.specs.Arcs.{arc_holds}
use Rattle.centres.specs.Centres.{radius_holds, centre_by}
use Rattle.cycles.specs.Cycles.{hole_of, levels_hold, passes}
use Rattle.letters.specs.declared.BlockCode.{BlockCode, TheVariants.Calling, TheVariants.Returning, TheVariants.Dwelling, TheVariants.Moving}

abbrev pub end_stands : Values → Bool
end_stands v = is_some v.x || is_some v.y || is_some v.z

-- the centre is given: by a word of its own, or by the radius (document 02, #101)
abbrev pub centre_given : Values → Bool
centre_given v = is_some v.i || is_some v.j || is_some v.k || is_some v.r

-- "No end and no centre word: mode only", and no R.
abbrev pub arc_stands : Values → Bool
arc_stands v = end_stands v || centre_given v

-- A block's motion: its records, and whether its geometry holds.
pub record Moves : Type 0 where
  pub records : List Record
  pub sound : Bool

abbrev pub no_moves : Moves
no_moves = record { records = []; sound = true }

abbrev pub one : Record → Moves
one r = record { records = r ∷ []; sound = true }

-- "centre by its distance from the start in the plane's letters .., a missing one 0": a missing word is worth 0
unfoldable pub centre_words : Values → Point
centre_words v = record { x = worth v.i; y = worth v.j; z = worth v.k }

-- The centre in the plane's axes: by its words, or, where R stands, by the radius to the end of the arc. `left` tells that a centre
-- by radius lies to the left of the way from the start to the end.
unfoldable pub centre_for : Bool → State → Values → Point → Flat
centre_for left s v end =
    let plane = s.modes.plane in
    if is_some v.r then centre_by left (worth v.r).v (flat plane s.at) (flat plane end)
    else flat plane (moved (centre_words v) s.at)

unfoldable pub arc_to : Bool → State → Values → Point → Arc
arc_to left s v end =
    let centre = centre_for left s v end in
    record { plane = s.modes.plane; end = end; first = centre.first; second = centre.second; feed = s.feed }

-- a circle of the radius goes through start and end, where R stands
unfoldable pub radius_fits : State → Values → Point → Bool
radius_fits s v end =
    let plane = s.modes.plane in
    not (is_some v.r) || radius_holds (worth v.r).v (flat plane s.at) (flat plane end)

-- geometry that gives no record at all
abbrev pub impossible : Moves
impossible = record { records = []; sound = false }

unfoldable pub arc_moves : (Arc → Record) → Bool → State → Values → Point → Moves
arc_moves make left s v end =
    let a = arc_to left s v end in
    if radius_fits s v end then record { records = make a ∷ []; sound = arc_holds s.at a } else impossible

-- "R positive is the arc of at most half a turn, R negative the larger one"
abbrev pub is_larger : Values → Bool
is_larger v = lt_z (worth v.r).v (pos 0)

-- "done when the block names one, or one is on and X, Y, Z or R stands"
unfoldable pub cycle_done : Bool → Values → Bool
cycle_done named v = named || end_stands v || is_some v.r

unfoldable pub cycle_moves : Cycle → State → Point → Values → Moves
cycle_moves cycle s origin v =
    let hole = hole_of cycle s origin in
    record { records = passes hole s.modes.distance origin s.at v; sound = levels_hold hole }

-- The motion by the code that is on; `named` tells that the block names it.
unfoldable pub motion_of : Motion → Bool → State → Point → Values → Moves
motion_of Off named s origin v = no_moves
-- "with any of X Y Z, one record"
motion_of G00 named s origin v = if end_stands v then one (RP (target s.modes.distance origin s.at v)) else no_moves
motion_of G01 named s origin v =
    if end_stands v then one (LN (target s.modes.distance origin s.at v) s.feed) else no_moves
-- `AR` is clockwise, as G02 is. Of two arcs that turn right the one of at most half a turn has its centre to the right of the way
-- from start to end, of two that turn left to the left (proofs/Sides.antt of `centres`).
motion_of G02 named s origin v =
    if arc_stands v then arc_moves AR (is_larger v) s v (target s.modes.distance origin s.at v) else no_moves
motion_of G03 named s origin v =
    if arc_stands v then arc_moves AL (not (is_larger v)) s v (target s.modes.distance origin s.at v) else no_moves
motion_of (Drilling cycle) named s origin v = if cycle_done named v then cycle_moves cycle s origin v else no_moves

unfoldable pub moves_of : BlockCode → Bool → State → Point → Values → Moves
moves_of Calling named s origin v = no_moves
moves_of Returning named s origin v = no_moves
moves_of Dwelling named s origin v = one (DW (worth v.p))
moves_of (Moving motion) named s origin v = motion_of motion named s origin v
