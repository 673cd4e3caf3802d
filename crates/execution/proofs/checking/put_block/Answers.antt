-- `execution::checking::put_block` meets its contract: the parts are written one after the other.
use Rattle.records.proofs.Written.{wrote_length}
use Rattle.work.{specs.Work.work_records, specs.Work.brief_records, proofs.Briefs.brief_asks, proofs.Briefs.brief_put}
use Rattle.execution.specs.Steps.{planned_records}
use Rattle.execution.proofs.{Written.first_ready, Written.second_ready, Written.third_ready, Written.three_wrote}
use Rattle.execution.proofs.checking.put_block.Goals as goal

pub put_brief-spun-requires : goal.put_brief-spun-requires
unfolding planned_records
put_brief-spun-requires c =
    let a = c.args in
    let h = brief_asks a.offset a.p.first
    (first_ready a.offset (brief_records a.p.first) (work_records a.p.work a.p.aim a.p.works.at) (brief_records a.p.last) c.requires.room_for) in
    record { b_in_bounds = h.0; list_short = h.1 }

pub put_work-moved-requires : goal.put_work-moved-requires
unfolding planned_records
put_work-moved-requires c =
    let p = c.args.p in
    let w = brief_put c.args.offset p.first c.put_brief-spun.ensures in
    record { room_for = second_ready c.args.offset (brief_records p.first) (work_records p.work p.aim p.works.at) (brief_records p.last) w c.requires.room_for; writable = c.requires.writable }

pub put_brief-requires : goal.put_brief-requires
unfolding planned_records
put_brief-requires c =
    let p = c.args.p in
    let w = brief_put c.args.offset p.first c.put_brief-spun.ensures in
    let h = brief_asks c.args.offset p.last
    (third_ready c.args.offset (brief_records p.first) (work_records p.work p.aim p.works.at) (brief_records p.last) w c.put_work-moved.ensures c.requires.room_for) in
    record { b_in_bounds = h.0; list_short = h.1 }

pub returns : goal.returns
unfolding planned_records
returns c =
    let a = c.args in
    let w = brief_put a.offset a.p.first c.put_brief-spun.ensures in
    three_wrote a.offset (brief_records a.p.first) (work_records a.p.work a.p.aim a.p.works.at) (brief_records a.p.last) w c.put_work-moved.ensures
    (brief_put a.offset a.p.last c.put_brief.ensures)

pub shape_of-list : goal.shape_of-list
shape_of-list c = wrote_length (returns c)
