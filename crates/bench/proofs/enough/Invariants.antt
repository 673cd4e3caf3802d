use Rattle.terms.proofs.Common.{◌≤◌, ◌<◌, ◌-◌, ◌≡◌, length}
use Rattle.bench.proofs.enough.Given as goal

abbrev pub invariant-loop-blocks : goal.invariant-loop-blocks
invariant-loop-blocks l = (0 < l.blocks) × (l.blocks ≤ 9_223_372_036_854_775_808) × (length l.list ≡ length l.initial.list)

abbrev pub decreases-loop-blocks : goal.decreases-loop-blocks
decreases-loop-blocks l = 9_223_372_036_854_775_808 - l.blocks
