use Rattle.terms.proofs.Common.{◌≤◌, ◌+◌, ◌-◌, length}
use Rattle.trials.proofs.do_lines.Given as goal

abbrev pub invariant-loop-from : goal.invariant-loop-from
invariant-loop-from g l = l.from ≤ length l.input + 1

abbrev pub decreases-loop-from : goal.decreases-loop-from
decreases-loop-from g l = length l.input + 1 - l.from
