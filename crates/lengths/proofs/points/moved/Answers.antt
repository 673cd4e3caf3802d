-- `lengths::points::moved` meets its contract, axis by axis.
use Rattle.lengths.specs.Points.{moved}
use Rattle.lengths.proofs.points.moved.Goals as goal

pub returns : goal.returns
unfolding moved
returns c = record { is = rw (c.plus.ensures.is, c.plus-2.ensures.is, c.plus-3.ensures.is); x = c.plus.ensures; y = c.plus-2.ensures; z = c.plus-3.ensures }
