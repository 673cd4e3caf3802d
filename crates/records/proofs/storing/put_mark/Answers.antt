-- `records::storing::put_mark` meets its contract: two stores write the mark.
use Rattle.terms.proofs.Common.{arith, length-set}
use Rattle.records.specs.Layout.{mark_of}
use Rattle.records.proofs.{Laid.mark_length, Written.wrote_two}
use Rattle.records.proofs.storing.put_mark.Goals as goal

pub bounds-list-at-2 : goal.bounds-list-at-2
bounds-list-at-2 c = simp length-set (omega arith)

pub returns : goal.returns
returns c =
    let x = c.args in
    rw c.mark_of-mark.ensures (wrote_two x.list.now x.at (mark_of x.kind) (mark_length x.kind))
