use Rattle.terms.proofs.Common.{◌-◌, ◌≡◌, length}
use Rattle.drawing.specs.Walks.{end_from}
use Rattle.drawing.proofs.layers.last_of.Given as goal

abbrev pub invariant-loop-next : goal.invariant-loop-next
invariant-loop-next l = end_from l.list l.at ≡ end_from l.list l.initial.at

abbrev pub decreases-loop-next : goal.decreases-loop-next
decreases-loop-next l = length l.list - l.at
