use Rattle.terms.proofs.Common.{◌-◌, length}
use Rattle.interpreter.specs.Progressing.{walk_from}
use Rattle.interpreter.proofs.Rounds.{Walking}
use Rattle.interpreter.proofs.walk.+run_program.Given as goal

-- the levels left
abbrev pub decreases-run_program : goal.decreases-run_program
decreases-run_program l = l.left

abbrev pub invariant-loop-how : goal.invariant-loop-how
invariant-loop-how l =
    Walking l.s l.task l.left (walk_from l.s (length l.initial.list) l.task l.left l.initial.block l.initial.at l.initial.p) l.initial.p
    l.initial.list l.list l.block l.at l.p

abbrev pub decreases-loop-how : goal.decreases-loop-how
decreases-loop-how l = length l.s - l.at
