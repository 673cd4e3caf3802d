use Rattle.terms.proofs.Common.{◌≤◌, ◌-◌, ◌≡◌, length}
use Rattle.cases.proofs.run_cases.Given as goal

abbrev pub invariant-loop-at : goal.invariant-loop-at
invariant-loop-at g l = (l.at ≤ length l.input) × (length l.list ≡ length l.initial.list)

abbrev pub decreases-loop-at : goal.decreases-loop-at
decreases-loop-at g l = length l.input - l.at
