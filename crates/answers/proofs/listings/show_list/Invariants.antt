use Rattle.terms.proofs.Common.{◌≤◌, ◌-◌, length}
use Rattle.answers.proofs.listings.show_list.Given as goal

abbrev pub invariant-loop-r : goal.invariant-loop-r
invariant-loop-r g l = l.at ≤ length l.list

abbrev pub decreases-loop-r : goal.decreases-loop-r
decreases-loop-r g l = length l.list - l.at
