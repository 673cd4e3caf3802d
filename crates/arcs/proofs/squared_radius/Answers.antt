-- `arcs::squared_radius` meets its contract.
use Rattle.terms.proofs.Common.{arith}
use Rattle.arcs.specs.Arcs.{radius²}
use Rattle.arcs.proofs.squared_radius.Goals as goal

pub squared_distance-requires : goal.squared_distance-requires
squared_distance-requires c = rw (c.centre_of.ensures, c.in_plane.ensures) (omega arith)

pub returns : goal.returns
unfolding radius²
returns c = rw (c.squared_distance.ensures, c.centre_of.ensures, c.in_plane.ensures)
