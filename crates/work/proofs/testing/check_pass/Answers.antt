-- `work::testing::check_pass` meets its contract: the records that are left lead to where all lead.
use Rattle.terms.proofs.Common.{arith, ◌∙◌, not-true, not-false, ap, not}
use Rattle.records.proofs.Moved.{kind_few}
use Rattle.cycles.specs.{Cycles.pass_to, Bounds.row_record}
use Rattle.work.proofs.{Extents.tested_starts, Extents.tested_ends, Extents.tested_leaves, Extents.tested_next, Extents.row_stays}
use Rattle.work.proofs.testing.check_pass.Goals as goal

pub loop-i-init : goal.loop-i-init
loop-i-init c = (tested_starts c.args.t c.args.e (pass_to c.args.h c.args.e.end.z c.args.to), c.requires.0)

pub row_at-row-requires : goal.row_at-row-requires
row_at-row-requires c = let a = c.args in omega (arith, c.row_count-n.ensures.is a.e.end.z a.to)

pub returns-then-not-is_inside : goal.returns-then-not-is_inside
returns-then-not-is_inside c =
    let a = c.args in
    let l = c.loop-i in
    let row = c.row_at-row.result in
    tested_leaves a.t a.e (pass_to a.h a.e.end.z a.to) l.i l.invariant.0 c.row_at-row.ensures
    (row_stays a.t l.end l.invariant.1 row ∙ rw (← c.row_end-end.ensures, ← c.is_inside.ensures) (not-true c.is_inside.result (ap not c.if-not-is_inside.true)))

pub overflow_add-room : goal.overflow_add-room
overflow_add-room c =
    omega (arith, c.row_room-room.ensures, kind_few (row_record c.row_at-row.result), c.loop-i.invariant.0.little, c.requires.1.room, c.loop-i-test.true, c.row_count-n.ensures.most)

pub loop-i-preserved : goal.loop-i-preserved
loop-i-preserved c =
    let a = c.args in
    let l = c.loop-i in
    let row = c.row_at-row.result in
    let stays = rw c.is_inside.ensures at (not-false c.is_inside.result (ap not c.if-not-is_inside.false)) in (
      tested_next a.t a.e (pass_to a.h a.e.end.z a.to) l.i l.invariant.0 c.row_at-row.ensures
          (row_stays a.t l.end l.invariant.1 row ∙ rw (← c.row_end-end.ensures) stays)
          (omega (arith, c.row_count-n.ensures.is a.e.end.z a.to)) c.row_end-end.ensures c.row_room-room.ensures,
      stays,
    )

pub returns : goal.returns
returns c =
    let a = c.args in
    tested_ends a.t a.e (pass_to a.h a.e.end.z a.to) c.loop-i.i c.loop-i.invariant.0 (c.row_count-n.ensures.is a.e.end.z a.to) (omega arith)

pub overflow_add-result : goal.overflow_add-result
overflow_add-result c = omega (arith, c.requires.1.count, c.row_count-n.ensures.most)
