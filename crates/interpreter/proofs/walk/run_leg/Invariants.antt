use Rattle.terms.proofs.Common.{◌-◌, ◌≤◌, length}
use Rattle.programs.specs.declared.table.Programs.{Programs}
use Rattle.interpreter.specs.Progressing.{task_on, walk_from}
use Rattle.interpreter.proofs.Rounds.{Walking}
use Rattle.interpreter.proofs.walk.run_leg.Given as goal

abbrev pub invariant-loop-footing : goal.invariant-loop-footing
invariant-loop-footing l =
    (l.initial.at ≤ l.at)
    × ((programs : Programs)
    → Walking l.s (task_on l.footing l.skips programs) l.footing.left (walk_from l.s (length l.initial.list) (task_on l.footing l.skips programs) l.footing.left l.initial.block l.initial.at l.initial.p) l.initial.p l.initial.list l.list l.block l.at l.p)

abbrev pub decreases-loop-footing : goal.decreases-loop-footing
decreases-loop-footing l = length l.s - l.at
