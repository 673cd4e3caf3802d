-- `lengths::points::in_plane` meets its contract: an arm for each plane.
use Rattle.lengths.specs.Points.{flat}
use Rattle.lengths.proofs.points.in_plane.Goals as goal

pub returns-in-G17 : goal.returns-in-G17
unfolding flat
returns-in-G17 c = rw c.in-G17.is

pub returns-in-G18 : goal.returns-in-G18
unfolding flat
returns-in-G18 c = rw c.in-G18.is

pub returns-in-G19 : goal.returns-in-G19
unfolding flat
returns-in-G19 c = rw c.in-G19.is
