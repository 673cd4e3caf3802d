use Rattle.terms.proofs.Common.{◌-◌, ◌≤◌, ◌≡◌, length, drop}
use Rattle.lines.specs.{Blocks.text_from, Gaps.only_gaps}
use Rattle.lines.proofs.gaps.only_gaps.Given as goal

abbrev pub invariant-loop-i : goal.invariant-loop-i
invariant-loop-i l = (l.i ≤ length l.s) × (only_gaps (text_from (drop l.at l.s)) ≡ only_gaps (text_from (drop l.i l.s)))

abbrev pub decreases-loop-i : goal.decreases-loop-i
decreases-loop-i l = length l.s - l.i
