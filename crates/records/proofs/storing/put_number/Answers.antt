-- `records::storing::put_number` meets its contract: four stores write the four bytes.
use Rattle.terms.proofs.Common.{arith, length-set}
use Rattle.records.specs.Layout.{number_bytes}
use Rattle.records.proofs.{Written.wrote_four}
use Rattle.records.proofs.storing.put_number.Goals as goal

pub bounds-list-at-2 : goal.bounds-list-at-2
bounds-list-at-2 c = simp length-set (omega arith)

pub bounds-list-at-3 : goal.bounds-list-at-3
bounds-list-at-3 c = simp length-set (omega arith)

pub bounds-list-at-4 : goal.bounds-list-at-4
bounds-list-at-4 c = simp length-set (omega arith)

pub returns : goal.returns
unfolding number_bytes
returns c =
    let x = c.args in
    rw c.bytes-four.ensures (wrote_four x.list.now x.at _ _ _ _)
