-- `work::writing::put_pass` meets its contract: the records that are left, written here, leave what all of them leave.
use Rattle.terms.proofs.Common.{[], arith, ◌+◌, refl, ◌∷◌, drop, drop_of_length-le}
use Rattle.records.proofs.Written.{wrote_length}
use Rattle.cycles.specs.{Cycles.pass_to, Bounds.row_record}
use Rattle.work.proofs.{Passing.going_starts, Passing.going_ends, Passing.going_asks, Passing.going_on}
use Rattle.work.proofs.writing.put_pass.Goals as goal

pub loop-i-init : goal.loop-i-init
loop-i-init c = going_starts c.args.offset refl c.requires

pub row_at-requires : goal.row_at-requires
row_at-requires c = let a = c.args in omega (arith, c.row_count-n.ensures.is a.level a.to)

pub put_row-next-requires : goal.put_row-next-requires
put_row-next-requires c =
    let a = c.args in
    going_asks a.offset c.loop-i.invariant (row_record c.row_at.result ∷ []) (drop (c.loop-i.i + 1) (pass_to a.h a.level a.to)) c.row_at.ensures

pub loop-i-preserved : goal.loop-i-preserved
loop-i-preserved c =
    let a = c.args in
    let row = c.row_at in
    going_on a.offset c.loop-i.invariant (row_record row.result ∷ []) (drop (c.loop-i.i + 1) (pass_to a.h a.level a.to)) row.ensures c.put_row-next.ensures

pub returns : goal.returns
returns c =
    let a = c.args in
    going_ends a.offset c.loop-i.invariant
    (drop_of_length-le (pass_to a.h a.level a.to) {i = c.loop-i.i} (omega (arith, c.row_count-n.ensures.is a.level a.to)))

pub shape_of-list : goal.shape_of-list
shape_of-list c = wrote_length (returns c)
