-- `work::writing::put_work` meets its contract: no record, one, or the passes of a hole.
use Rattle.records.proofs.{Written.wrote_length, Moved.put_as, Moved.put_none, Moved.ready_as}
use Rattle.work.proofs.{Passing.work_none, Passing.work_one, Passing.work_drills, Passing.drills_writable}
use Rattle.work.proofs.writing.put_work.Goals as goal

pub returns-then-w-eq0 : goal.returns-then-w-eq0
returns-then-w-eq0 c =
    let a = c.args in
    put_as a.offset (work_none a.w a.aim a.from c.if-w-eq0.true) (put_none a.offset a.list.now a.at)

pub put-requires : goal.put-requires
put-requires c =
    ready_as c.args.offset (work_one c.args.w c.args.aim c.args.from c.in-One.is c.requires.writable.once c.if-w-eq0.false) c.requires.room_for

pub put_passes-requires : goal.put_passes-requires
put_passes-requires c =
    let e = c.in-Drill.is in
    record { room_for = ready_as c.args.offset (work_drills c.args.w c.args.aim c.args.from e) c.requires.room_for; writable = drills_writable c.args.w c.args.aim c.args.from e c.requires.writable }

pub returns-else-w-eq0 : goal.returns-else-w-eq0
returns-else-w-eq0 c =
    put_as c.args.offset (work_one c.args.w c.args.aim c.args.from c.in-One.is c.requires.writable.once c.if-w-eq0.false) c.put.ensures

pub returns-in-Drill : goal.returns-in-Drill
returns-in-Drill c =
    let a = c.args in
    put_as a.offset (work_drills a.w a.aim a.from c.in-Drill.is) c.put_passes.ensures

pub shape_of-list-else-w-eq0 : goal.shape_of-list-else-w-eq0
shape_of-list-else-w-eq0 c = wrote_length (returns-else-w-eq0 c)

pub shape_of-list-in-Drill : goal.shape_of-list-in-Drill
shape_of-list-in-Drill c = wrote_length (returns-in-Drill c)
