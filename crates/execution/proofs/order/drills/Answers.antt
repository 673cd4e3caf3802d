-- `execution::order::drills` meets its contract.
use Rattle.terms.proofs.Common.{sym, ◌≡◌}
use Rattle.blocks.specs.Exec.{drills}
use Rattle.codes.specs.declared.Motion.TheVariants.{Drilling}
use Rattle.execution.proofs.{Small.no_cycle, Small.not_moving}
use borrow.Enum.Refused.{opened}
use Rattle.execution.proofs.order.drills.Goals as goal
use Rattle.execution.proofs.order.drills.Goals.{in-Moving-Drilling, in_default, in_default-2}

pub returns : goal.returns
unfolding drills
returns c =
    let a = c.args in
    elim c.match-matches.branch [
      | in-Moving-Drilling w ↦
          let m = w.in-Moving-Drilling in
          let cycle : m.field-0 ≡ Drilling m.field-0-0 = rw m.is at m.field-0-is in
          rw (w.matches-is, m.is, cycle) c.cycle_done.ensures
      | in_default w ↦
          let m = w.in_default in
          rw (w.matches-is, m.is) (sym (no_cycle m.field-0 a.named a.v (rw m.is at (opened m.in_default-own.keys2))))
      | in_default-2 w ↦ rw w.matches-is (sym (not_moving a.code a.named a.v (opened w.in_default.in_default-own.keys2)))
    ]
