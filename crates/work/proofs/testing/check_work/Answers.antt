-- `work::testing::check_work` meets its contract: no record, one, or the passes of a hole.
use Rattle.terms.proofs.Common.{arith, sym, ◌∙◌, ap}
use Rattle.work.specs.Work.{way_of}
use Rattle.work.proofs.{Extents.way_none, Passing.work_none, Passing.work_one, Passing.work_drills, Passing.drills_testable}
use Rattle.work.proofs.testing.check_work.Goals as goal

pub returns-then-w-eq0 : goal.returns-then-w-eq0
returns-then-w-eq0 c =
    let a = c.args in
    rw (work_none a.w a.aim a.e.end c.if-w-eq0.true) (sym (way_none a.t a.e))

pub check_record-requires : goal.check_record-requires
check_record-requires c =
    (rw c.in-One.is at c.requires.ready, record { room = omega (arith, c.requires.room); count = omega (arith, c.requires.count) })

pub check_passes-requires : goal.check_passes-requires
check_passes-requires c = drills_testable c.in-Drill.h c.requires

pub returns-else-w-eq0 : goal.returns-else-w-eq0
returns-else-w-eq0 c =
    c.check_record.ensures
    ∙ ap (way_of c.args.t c.args.e) (sym (work_one c.args.w c.args.aim c.args.e.end c.in-One.is c.requires.once c.if-w-eq0.false))

pub returns-in-Drill : goal.returns-in-Drill
returns-in-Drill c =
    let a = c.args in
    c.check_passes.ensures ∙ ap (way_of a.t a.e) (sym (work_drills a.w a.aim a.e.end c.in-Drill.is))
