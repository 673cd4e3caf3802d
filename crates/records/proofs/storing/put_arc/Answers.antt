-- `records::storing::put_arc` meets its contract: the parts are written one after the other.
use Rattle.terms.proofs.Common.{arith, length-set}
use Rattle.records.specs.Layout.{number_bytes}
use Rattle.records.proofs.{Written.wrote_then, Written.wrote_cons, Written.wrote_length}
use Rattle.records.proofs.storing.put_arc.Goals as goal

pub put_point-first-requires : goal.put_point-first-requires
put_point-first-requires c =
    let s = c.requires.all_short in
    record { at_in_bounds = simp length-set (omega arith); all_short = (s.0, (s.1.0, (s.1.1.0, tt))) }

pub put_number-second-requires : goal.put_number-second-requires
unfolding number_bytes
put_number-second-requires c =
    let h = length-set c.args.list.now c.args.at c.from.result in
    record { at_in_bounds = omega arith; short = c.requires.all_short.1.1.1.0 }

pub put_number-feed-requires : goal.put_number-feed-requires
unfolding number_bytes
put_number-feed-requires c =
    let h = length-set c.args.list.now c.args.at c.from.result in
    record { at_in_bounds = omega arith; short = c.requires.all_short.1.1.1.1.0 }

pub put_number-requires : goal.put_number-requires
unfolding number_bytes
put_number-requires c =
    let h = length-set c.args.list.now c.args.at c.from.result in
    record { at_in_bounds = omega arith; short = c.requires.all_short.1.1.1.1.1.0 }

pub returns : goal.returns
unfolding number_bytes
returns c =
    rw (← c.from.ensures)
    (wrote_cons
    c.from.result
    (wrote_then
    (wrote_then (wrote_then c.put_point-first.ensures c.put_number-second.ensures) c.put_number-feed.ensures)
    c.put_number.ensures))

pub shape_of-list : goal.shape_of-list
shape_of-list c = wrote_length (returns c)
