-- `records::storing::put_turn` meets its contract: the mark, and then the displaced arc.
use Rattle.terms.proofs.Common.{arith}
use Rattle.records.specs.{declared.Record.TheVariants.AR, Layout.numbers_of, Path.path_of, Path.arc_moved, Path.record_moved}
use Rattle.records.proofs.{Laid.mark_length, Written.wrote_then, Written.wrote_length, Moved.one_fits, Moved.one_short, Moved.one_sums}
use Rattle.records.proofs.storing.put_turn.Goals as goal

pub put_mark-body-requires : goal.put_mark-body-requires
put_mark-body-requires c = omega (arith, one_fits c.args.by (AR c.args.a) c.requires)

pub displaced_arc-requires : goal.displaced_arc-requires
unfolding path_of
displaced_arc-requires c =
    one_sums c.args.by (AR c.args.a) (one_short c.args.by (AR c.args.a) c.requires)

pub put_arc-requires : goal.put_arc-requires
unfolding numbers_of record_moved
put_arc-requires c =
    let mark = c.put_mark-body.ensures in
    record { at_in_bounds = omega (arith, mark.place, wrote_length mark, mark_length c.args.kind, one_fits c.args.by (AR c.args.a) c.requires); all_short = rw c.displaced_arc.ensures c.requires.short.0 }

pub returns : goal.returns
unfolding arc_moved
returns c =
    wrote_then c.put_mark-body.ensures
    (rw c.displaced_arc.ensures at c.put_arc.ensures)

pub shape_of-list : goal.shape_of-list
shape_of-list c = wrote_length (returns c)
