-- `work::writing::put_passes` meets its contract: the passes that are left, written here, leave what all of them leave.
use Rattle.terms.proofs.Common.{arith, ◌+◌, ◌-◌, ◌≡◌, refl}
use Rattle.cycles.specs.{Cycles.pass_to}
use Rattle.records.{specs.Path.end_of, proofs.Written.wrote_length}
use Rattle.work.specs.{declared.Pass.TheVariants.Drill, Work.rows_of, Work.passes_of, Work.leads, Work.work_records}
use Rattle.work.proofs.Passing.{passes_to, passes_none, can_lead, going_starts, going_ends, going_asks, going_on, inside_starts, inside_on}
use Rattle.work.proofs.writing.put_passes.Goals as goal

pub loop-init : goal.loop-init
unfolding work_records
loop-init c =
    let a = c.args in
    let n : a.passes - 0 ≡ a.passes = omega arith in
    let all : passes_of (a.passes - 0) (Drill a.h) (leads a.aim) a.from ≡ passes_of a.passes (Drill a.h) (leads a.aim) a.from = rw n in
    (going_starts a.offset all c.requires.room_for, inside_starts all)

pub target_point-to-requires : goal.target_point-to-requires
unfolding work_records
target_point-to-requires c =
    let h = c.requires.writable in
    can_lead h.leading c.loop.tool (c.loop.invariant.1.there h.travel h.leading.inside h.stays).0

pub put_pass-next-requires : goal.put_pass-next-requires
unfolding rows_of
put_pass-next-requires c =
    let a = c.args in
    let l = c.loop in
    let to = c.target_point-to.result in
    let rows = pass_to a.h l.tool.z to in
    going_asks a.offset l.invariant.0 rows (passes_of (a.passes - l.counter - 1) (Drill a.h) (leads a.aim) (end_of l.tool rows))
    (passes_to (a.passes - l.counter) (Drill a.h) a.aim l.tool (omega arith) c.target_point-to.ensures.is refl)

pub loop-preserved : goal.loop-preserved
unfolding rows_of
loop-preserved c =
    let a = c.args in
    let l = c.loop in
    let to = c.target_point-to.result in
    let rows = pass_to a.h l.tool.z to in
    let end = c.pass_end-tool.result in
    let more = passes_of (a.passes - l.counter - 1) (Drill a.h) (leads a.aim) end in
    let parts = passes_to (a.passes - l.counter) (Drill a.h) a.aim l.tool (omega arith) c.target_point-to.ensures.is (c.pass_end-tool.ensures l.tool.z l.tool) in
    let n : a.passes - (l.counter + 1) ≡ a.passes - l.counter - 1 = omega arith in
    rw n
    (going_on a.offset l.invariant.0 rows more parts c.put_pass-next.ensures, inside_on rows more l.invariant.1 parts (c.pass_end-tool.ensures l.tool.z l.tool))

pub returns : goal.returns
unfolding work_records
returns c =
    let a = c.args in
    let l = c.loop in
    going_ends a.offset l.invariant.0 (passes_none (a.passes - l.counter) (Drill a.h) (leads a.aim) l.tool (omega arith))

pub shape_of-list : goal.shape_of-list
shape_of-list c = wrote_length (returns c)
