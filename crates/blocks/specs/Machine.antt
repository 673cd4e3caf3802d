-- What a block asks of the machine. Two setups that differ only in the travel, or in EXOFS and start displaced alike,
-- differ here in the two tests alone.
use Rattle.terms.specs.Common.{ℕ, Bool}
use Rattle.lengths.specs.declared.Point.{Point}
use Rattle.setup.specs.{declared.Bed.Bed, Frame.origin_at}
use Rattle.letters.specs.declared.Speeds.{Speeds}
use Rattle.records.specs.{declared.Record.Record, Path.path_of, Path.record_moved}
use Rattle.arcs.specs.Arcs.{path_stays, centre_fits}

pub record Machine : Type 0 where
  -- the origin at a place of the table
  pub origin : ℕ → Point
  pub speeds : Speeds
  -- the centre of a record fits four signed bytes
  pub fits : Record → Bool
  -- the path of a record that begins at a point stays in the travel
  pub stays : Point → Record → Bool

-- the machine of a bed, in the frame of the common offset
unfoldable pub machine_of : Bed → Machine
machine_of b =
    record {
      origin = origin_at b;
      speeds = record { lowest = b.lowest; highest = b.highest };
      fits = λ r. centre_fits (path_of (record_moved b.offset r));
      stays = λ from r. path_stays b.travel from (path_of r);
    }
