-- `records::storing::put_cut` meets its contract: the mark, the displaced point and the feed are the record.
use Rattle.terms.proofs.Common.{arith, refl}
use Rattle.records.specs.{declared.Record.TheVariants.LN, Layout.plane_bytes, Layout.plane_of, Layout.numbers_of, Layout.number_bytes, Path.path_of, Path.record_moved}
use Rattle.records.proofs.{Written.wrote_record, Written.wrote_then, Written.wrote_length, Moved.put_one, Moved.one_fits, Moved.one_short, Moved.one_sums}
use Rattle.records.proofs.storing.put_cut.Goals as goal

pub put_mark-body-requires : goal.put_mark-body-requires
put_mark-body-requires c = omega (arith, one_fits c.args.by (LN c.args.p c.args.feed) c.requires)

pub moved-requires : goal.moved-requires
unfolding path_of
moved-requires c =
    let r = LN c.args.p c.args.feed in
    one_sums c.args.by r (one_short c.args.by r c.requires)

pub put_point-next-requires : goal.put_point-next-requires
unfolding numbers_of record_moved
put_point-next-requires c =
    let mark = c.put_mark-body.ensures in
    let h = c.requires.short.0 in
    record { at_in_bounds = omega (arith, mark.place, wrote_length mark, one_fits c.args.by (LN c.args.p c.args.feed) c.requires); all_short = rw c.moved.ensures.is (h.0, (h.1.0, (h.1.1.0, tt))) }

pub put_number-requires : goal.put_number-requires
unfolding numbers_of number_bytes record_moved
put_number-requires c =
    let mark = c.put_mark-body.ensures in
    let point = c.put_point-next.ensures in
    record { at_in_bounds = omega (arith, point.place, wrote_length point, mark.place, wrote_length mark, one_fits c.args.by (LN c.args.p c.args.feed) c.requires); short = c.requires.short.0.1.1.1.0 }

pub returns : goal.returns
unfolding plane_bytes plane_of numbers_of number_bytes record_moved
returns c =
    let a = c.args in
    put_one a.by (LN a.p a.feed)
    (wrote_record (record_moved a.by (LN a.p a.feed)) refl c.put_mark-body.ensures
    (rw (← c.moved.ensures.is) (wrote_then c.put_point-next.ensures c.put_number.ensures)))

pub shape_of-list : goal.shape_of-list
shape_of-list c = wrote_length (returns c)
