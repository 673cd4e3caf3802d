-- Whether the paths of records stay in the travel, one after the other.
use Rattle.terms.specs.Common.{Bool, List}
use Rattle.lengths.specs.declared.{Point.Point, Travel.Travel}
use Rattle.records.specs.{declared.Record.Record, Path.path_of, Path.path_stays_in}
use Rattle.arcs.specs.Arcs.{path_stays}

-- every path of records that begin at a point stays in the travel
abbrev pub stays_in : Travel → Point → List Record → Bool
stays_in t from rs = path_stays_in (λ p r. path_stays t p (path_of r)) from rs
