-- `work::planning::lies_left` meets its contract, by the sense.
use Rattle.terms.proofs.Common.{rules}
use Rattle.work.specs.Work.{lies_left}
use Rattle.work.proofs.planning.lies_left.Goals as goal

pub is_larger-requires : goal.is_larger-requires
unfolding lies_left
is_larger-requires c = search rules

pub is_larger-requires-else-clockwise : goal.is_larger-requires-else-clockwise
unfolding lies_left
is_larger-requires-else-clockwise c = search rules

pub returns-then-clockwise : goal.returns-then-clockwise
unfolding lies_left
returns-then-clockwise c = rw (c.if-clockwise.true, c.is_larger.ensures)

pub returns-else-clockwise : goal.returns-else-clockwise
unfolding lies_left
returns-else-clockwise c = rw (c.if-clockwise.false, c.is_larger-else-clockwise.ensures)
