-- The travel of a setup in machine units, as the setup gives it.
use Rattle.terms.specs.Common.{Bool}
use Rattle.lengths.specs.declared.{Point.Point, Travel.Travel}
use Rattle.setup.specs.{declared.Setup.Setup, Frame.point_of}
use Rattle.records.specs.{declared.Record.Record, Path.path_of}
use Rattle.arcs.specs.Arcs.{path_stays}

abbrev pub machine_travel : Setup → Travel
machine_travel s = record { low = point_of s.low; high = point_of s.high }

-- a record in machine units, whose path begins at a machine point, stays in the setup's travel: "In the travel means: the
-- end is inside, and each of the four axis extremes whose direction lies on the path, ends counted, is inside."
unfoldable pub in_travel : Setup → Point → Record → Bool
in_travel s from r = path_stays (machine_travel s) from (path_of r)
