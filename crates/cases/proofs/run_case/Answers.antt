-- `cases::run_case` meets its contract: the room is in the list.
use Rattle.terms.proofs.Common.{sym, arith, length-take-le}
use Rattle.cases.proofs.run_case.Goals as goal

pub slice_bounds-report_to-end-3 : goal.slice_bounds-report_to-end-3
slice_bounds-report_to-end-3 g c =
    let a = c.args in
    sym (length-take-le a.case.room a.list.now (omega arith))
