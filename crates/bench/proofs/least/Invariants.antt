use Rattle.terms.proofs.Common.{◌≤◌, ◌-◌, ◌≡◌, length}
use Rattle.bench.proofs.least.Given as goal

abbrev pub invariant-loop-many : goal.invariant-loop-many
invariant-loop-many l = (l.few ≤ l.many) × (l.many ≤ l.enough) × (length l.list ≡ length l.initial.list)

abbrev pub decreases-loop-many : goal.decreases-loop-many
decreases-loop-many l = l.many - l.few
