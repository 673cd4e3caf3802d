-- The path of records, and records displaced.
use Rattle.std.specs.Prelude.{◌&&◌, ◌∷◌}
use Rattle.terms.specs.Common.{Bool, true, List, []}
use Rattle.lengths.specs.{Units.◌⊕◌, declared.Point.Point, Points.moved, Points.flat}
use Rattle.records.specs.declared.{Arc.Arc, Record.Record}
use Rattle.records.specs.declared.Record.TheVariants.{RP, LN, AR, AL, DW, SP, SO, PA, EN}

-- the path that a record tells: "`AR` (clockwise), `AL`"
pub data Path : Type 0 where
  straight : Point → Path
  clockwise : Arc → Path
  counter : Arc → Path
  still : Path

unfoldable pub path_of : Record → Path
path_of (RP p) = straight p
path_of (LN p feed) = straight p
path_of (AR a) = clockwise a
path_of (AL a) = counter a
path_of (DW ms) = still
path_of (SP speed) = still
path_of SO = still
path_of PA = still
path_of EN = still

-- where a path ends that begins at a point
unfoldable pub path_end : Point → Path → Point
path_end from (straight p) = p
path_end from (clockwise a) = a.end
path_end from (counter a) = a.end
path_end from still = from

unfoldable pub end_of : Point → List Record → Point
end_of from [] = from
end_of from (r ∷ rs) = end_of (path_end from (path_of r)) rs

-- every path of a list of records passes a test of the point where it begins and the record
unfoldable pub path_stays_in : (Point → Record → Bool) → Point → List Record → Bool
path_stays_in stays from [] = true
path_stays_in stays from (r ∷ rs) = stays from r && path_stays_in stays (path_end from (path_of r)) rs

-- "all points and arc centres displaced and every other number equal"
unfoldable pub arc_moved : Point → Arc → Arc
arc_moved by a =
    record {
      plane = a.plane;
      end = moved by a.end;
      first = a.first ⊕ (flat a.plane by).first;
      second = a.second ⊕ (flat a.plane by).second;
      feed = a.feed;
    }

unfoldable pub record_moved : Point → Record → Record
record_moved by (RP p) = RP (moved by p)
record_moved by (LN p feed) = LN (moved by p) feed
record_moved by (AR a) = AR (arc_moved by a)
record_moved by (AL a) = AL (arc_moved by a)
record_moved by (DW ms) = DW ms
record_moved by (SP speed) = SP speed
record_moved by SO = SO
record_moved by PA = PA
record_moved by EN = EN
