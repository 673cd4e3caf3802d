-- `cycles::put_row` meets its contract: each arm writes the record of its kind.
use Rattle.terms.proofs.Common.{arith}
use Rattle.records.specs.{declared.Record.TheVariants.DW, Layout.plane_bytes, Layout.plane_of, Layout.numbers_of, Layout.record_bytes, Path.record_moved}
use Rattle.records.proofs.{Written.wrote_length, Moved.put_one, Moved.one_fits}
use Rattle.cycles.proofs.put_row.Goals as goal

pub put_rapid-requires : goal.put_rapid-requires
put_rapid-requires c = rw c.in-Rapid.is at c.requires

pub put_cut-requires : goal.put_cut-requires
put_cut-requires c = rw c.in-Cut.is at c.requires

pub put_single-requires : goal.put_single-requires
unfolding numbers_of record_moved
put_single-requires c =
    let h = rw c.in-Dwell.is at c.requires in
    (omega (arith, one_fits c.args.by (DW c.in-Dwell.ms) h), h.short.0.0)

pub returns-in-Rapid : goal.returns-in-Rapid
returns-in-Rapid c = rw c.in-Rapid.is c.put_rapid.ensures

pub returns-in-Cut : goal.returns-in-Cut
returns-in-Cut c = rw c.in-Cut.is c.put_cut.ensures

pub returns-in-Dwell : goal.returns-in-Dwell
unfolding record_bytes plane_bytes plane_of numbers_of record_moved
returns-in-Dwell c =
    rw c.in-Dwell.is (put_one c.args.by (DW c.in-Dwell.ms) c.put_single.ensures)

pub shape_of-list-in-Rapid : goal.shape_of-list-in-Rapid
shape_of-list-in-Rapid c = wrote_length (returns-in-Rapid c)

pub shape_of-list-in-Cut : goal.shape_of-list-in-Cut
shape_of-list-in-Cut c = wrote_length (returns-in-Cut c)

pub shape_of-list-in-Dwell : goal.shape_of-list-in-Dwell
shape_of-list-in-Dwell c = wrote_length (returns-in-Dwell c)
