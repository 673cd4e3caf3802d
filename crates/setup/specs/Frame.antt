-- The frame of the common offset. "Machine point = EXOFS + selected origin + workpiece coordinate." The rules of a run
-- speak of machine points less EXOFS, so that a point is the selected origin plus the workpiece coordinate. Only the
-- travel and the step from a record to machine units know EXOFS.
use Rattle.terms.specs.Common.{ℕ, Bool, map, pos, lt_z, get_or}
use Rattle.lengths.specs.{Units.len, declared.Point.Point, declared.Travel.Travel, Points.moved_back}
use Rattle.setup.specs.declared.{Axes.Axes, Setup.Setup, Bed.Bed}

abbrev pub point_of : Axes → Point
point_of a = record { x = len a.x; y = len a.y; z = len a.z }

unfoldable pub offset : Setup → Point
offset s = point_of s.exofs

unfoldable pub start_of : Setup → Point
start_of s = moved_back (offset s) (point_of s.start)

unfoldable pub travel_of : Setup → Travel
travel_of s =
    record {
      low = moved_back (offset s) (point_of s.low);
      high = moved_back (offset s) (point_of s.high);
    }

unfoldable pub bed_of : Setup → Bed
bed_of s =
    record {
      offset = offset s;
      travel = travel_of s;
      origins = map point_of s.origins;
      lowest = len s.lowest;
      highest = len s.highest;
    }

-- the origin at a place of the table, from 0 for G54 to 5 for G59
unfoldable pub origin_at : Bed → ℕ → Point
origin_at b k = get_or b.origins k (record { x = len (pos 0); y = len (pos 0); z = len (pos 0) })

unfoldable pub switch_on : Setup → Bool
switch_on s = lt_z (pos 0) s.skip
