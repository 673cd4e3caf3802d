-- `records::storing::put_single` meets its contract: the mark and then the number.
use Rattle.terms.proofs.Common.{arith}
use Rattle.records.proofs.{Laid.mark_length, Written.wrote_then, Written.wrote_length}
use Rattle.records.proofs.storing.put_single.Goals as goal

pub put_number-requires : goal.put_number-requires
put_number-requires c =
    let mark = c.put_mark-body.ensures in
    record { at_in_bounds = omega (arith, mark.place, wrote_length mark, mark_length c.args.kind, c.requires.0); short = c.requires.1 }

pub returns : goal.returns
returns c = wrote_then c.put_mark-body.ensures c.put_number.ensures

pub shape_of-list : goal.shape_of-list
shape_of-list c = wrote_length (returns c)
