-- `lengths::points::moved_back` meets its contract, axis by axis.
use Rattle.lengths.specs.Points.{moved_back}
use Rattle.lengths.proofs.points.moved_back.Goals as goal

pub returns : goal.returns
unfolding moved_back
returns c = record { is = rw (c.minus.ensures.is, c.minus-2.ensures.is, c.minus-3.ensures.is); x = c.minus.ensures; y = c.minus-2.ensures; z = c.minus-3.ensures }
