-- How the code holds what a block makes: so many passes of the same few records, and what they come to.
use Rattle.std.specs.Prelude.{◌+◌, ◌∷◌, ◌++◌, if◌then◌else◌}
use Rattle.terms.specs.Common.{ℕ, zero, suc, Bool, true, false, not, Option, None, Some, List, [], length}
use Rattle.lengths.specs.declared.{Len.Len, Point.Point, Travel.Travel}
use Rattle.words.specs.declared.Values.{Values}
use Rattle.records.specs.{declared.Arc.Arc, declared.Record.Record, Layout.room_of, Path.path_of, Path.end_of, Path.record_moved}
use Rattle.records.specs.declared.Record.TheVariants.{RP, LN, AR, AL, SP, SO, PA, EN}
use Rattle.settings.specs.{declared.State.State, Target.target}
use Rattle.arcs.specs.{Arcs.centre_fits, Staying.stays_in}
use Rattle.cycles.specs.{declared.Hole.Hole, Cycles.pass_to}
use Rattle.blocks.specs.Motions.{is_larger}
use Rattle.codes.specs.declared.Motion.{Motion, TheVariants.Off, TheVariants.G00, TheVariants.G01, TheVariants.G02, TheVariants.G03, TheVariants.Drilling}
use Rattle.work.specs.declared.{Pass.Pass, Pass.TheVariants.One, Pass.TheVariants.Drill, Work.Work, Brief.Brief, Aim.Aim, Extent.Extent}
use Rattle.work.specs.declared.Brief.TheVariants.{Speed, SpindleOff, Pause, End}

-- the records of one pass, which comes at a level and goes to X, Y of a point
unfoldable pub rows_of : Pass → Len → Point → List Record
rows_of (One r) level to = r ∷ []
rows_of (Drill h) level to = pass_to h level to

-- passes one after the other: each comes at the height where the tool is, and goes to where the words then lead
unfoldable pub passes_of : ℕ → Pass → (Point → Point) → Point → List Record
passes_of zero pass next from = []
passes_of (suc k) pass next from =
    let rows = rows_of pass from.z (next from) in rows ++ passes_of k pass next (end_of from rows)

abbrev pub leads : Aim → Point → Point
leads aim p = target aim.distance aim.origin p aim.values

unfoldable pub work_records : Work → Aim → Point → List Record
work_records w aim from = passes_of w.passes w.pass (leads aim) from

abbrev pub aim_of : State → Point → Values → Aim
aim_of s origin v = record { distance = s.modes.distance; origin = origin; values = v }

-- no record, and one record; `sound` tells whether the geometry holds
abbrev pub no_work : Bool → Work
no_work sound = record { pass = One PA; passes = 0; sound = sound }

abbrev pub one_work : Record → Bool → Work
one_work r sound = record { pass = One r; passes = 1; sound = sound }

-- the passes of a hole
abbrev pub drilled : Hole → ℕ → Work
drilled h passes = record { pass = Drill h; passes = passes; sound = true }

-- a rapid or a cut, and an arc by its sense
unfoldable pub straight_record : Bool → Point → Len → Record
straight_record true p feed = LN p feed
straight_record false p feed = RP p

unfoldable pub arc_record : Bool → Arc → Record
arc_record true = AR
arc_record false = AL

-- G02 turns clockwise; the centre of an arc by its radius lies to the left for the larger clockwise arc and the smaller other one
unfoldable pub is_clockwise : Motion → Bool
is_clockwise Off = false
is_clockwise G00 = false
is_clockwise G01 = false
is_clockwise G02 = true
is_clockwise G03 = false
is_clockwise (Drilling cycle) = false

unfoldable pub lies_left : Bool → Values → Bool
lies_left clockwise v = if clockwise then is_larger v else not (is_larger v)

-- the record before the motion, or the one after it, where there is one
unfoldable pub brief_records : Option Brief → List Record
brief_records (Some (Speed speed)) = SP speed ∷ []
brief_records (Some SpindleOff) = SO ∷ []
brief_records (Some Pause) = PA ∷ []
brief_records (Some End) = EN ∷ []
brief_records None = []

-- the centre of a pass's record fits four bytes in machine units; a hole has none
unfoldable pub pass_fits : Point → Pass → Bool
pass_fits offset (One r) = centre_fits (path_of (record_moved offset r))
pass_fits offset (Drill h) = true

-- what records come to, after others
unfoldable pub grown : Extent → List Record → Extent
grown e rs = record { end = end_of e.end rs; room = e.room + room_of rs; count = e.count + length rs }

-- records lead to what they come to, and nowhere where one of their paths leaves the travel
unfoldable pub way_of : Travel → Extent → List Record → Option Extent
way_of t e rs = if stays_in t e.end rs then Some (grown e rs) else None
