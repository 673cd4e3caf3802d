-- `records::storing::put_rapid` meets its contract: the mark and then the displaced point are the record.
use Rattle.terms.proofs.Common.{arith, refl}
use Rattle.records.specs.{declared.Record.TheVariants.RP, Layout.plane_bytes, Layout.plane_of, Layout.numbers_of, Layout.number_bytes, Path.path_of, Path.record_moved}
use Rattle.records.proofs.{Written.wrote_record, Written.wrote_length, Moved.put_one, Moved.one_fits, Moved.one_short, Moved.one_sums}
use Rattle.records.proofs.storing.put_rapid.Goals as goal

pub put_mark-body-requires : goal.put_mark-body-requires
put_mark-body-requires c = omega (arith, one_fits c.args.by (RP c.args.p) c.requires)

pub moved-requires : goal.moved-requires
unfolding path_of
moved-requires c =
    let r = RP c.args.p in
    one_sums c.args.by r (one_short c.args.by r c.requires)

pub put_point-requires : goal.put_point-requires
unfolding numbers_of record_moved
put_point-requires c =
    let mark = c.put_mark-body.ensures in
    record { at_in_bounds = omega (arith, mark.place, wrote_length mark, one_fits c.args.by (RP c.args.p) c.requires); all_short = rw c.moved.ensures.is c.requires.short.0 }

pub returns : goal.returns
unfolding plane_bytes plane_of numbers_of number_bytes record_moved
returns c =
    let a = c.args in
    put_one a.by (RP a.p)
    (wrote_record (record_moved a.by (RP a.p)) refl c.put_mark-body.ensures
    (rw (← c.moved.ensures.is) c.put_point.ensures))

pub shape_of-list : goal.shape_of-list
shape_of-list c = wrote_length (returns c)
