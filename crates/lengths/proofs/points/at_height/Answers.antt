-- `lengths::points::at_height` meets its contract.
use Rattle.terms.proofs.Common.{refl}
use Rattle.lengths.specs.Points.{at_height}
use Rattle.lengths.proofs.points.at_height.Goals as goal

pub returns : goal.returns
unfolding at_height
returns c = refl
