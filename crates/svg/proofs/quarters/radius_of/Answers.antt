-- `svg::quarters::radius_of` meets its contract: two squares of at most 1,500,000,000 have a root below 2 ^ 31.
use Rattle.terms.proofs.Common.{refl, arith}
use Rattle.arcs.specs.Arcs.{radius²}
use Rattle.svg.specs.Turns.{radius_of}
use Rattle.svg.proofs.{Turned.radius_most}
use Rattle.svg.proofs.quarters.radius_of.Goals as goal

pub squared_distance-requires : goal.squared_distance-requires
squared_distance-requires c =
    rw (c.in_plane.ensures, c.centre_of.ensures) (omega arith)

pub returns : goal.returns
unfolding radius_of radius²
returns c =
    let x = c.args in
    let most = radius_most x.from x.a c.requires in
    rw (c.root_of.ensures, c.squared_distance.ensures, c.in_plane.ensures, c.centre_of.ensures) (refl, most)
