use Rattle.terms.proofs.Common.{◌≤◌, length}
use Rattle.look.proofs.show_blocks.Given as goal

abbrev pub invariant-loop-number : goal.invariant-loop-number
invariant-loop-number g l = l.at ≤ length l.s
