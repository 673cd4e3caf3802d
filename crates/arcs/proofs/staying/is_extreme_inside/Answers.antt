-- `arcs::staying::is_extreme_inside` meets its contract.
use Rattle.terms.proofs.Common.{ap₂, ◌&&◌}
use Rattle.arcs.specs.Arcs.{extreme_inside}
use Rattle.arcs.proofs.staying.is_extreme_inside.Goals as goal

pub returns : goal.returns
unfolding extreme_inside
returns c = ap₂ ◌&&◌ c.is_coordinate_inside.ensures c.is_coordinate_inside-2.ensures
