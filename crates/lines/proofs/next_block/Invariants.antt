use Rattle.terms.proofs.Common.{◌+◌, ◌-◌, ◌≡◌, length, drop}
use Rattle.lines.specs.Blocks.{length_from}
use Rattle.lines.proofs.next_block.Given as goal

abbrev pub invariant-loop-i : goal.invariant-loop-i
invariant-loop-i l = l.at + length_from (drop l.at l.s) ≡ l.i + length_from (drop l.i l.s)

abbrev pub decreases-loop-i : goal.decreases-loop-i
decreases-loop-i l = length l.s - l.i
