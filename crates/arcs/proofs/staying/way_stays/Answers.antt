-- `arcs::staying::way_stays` meets its contract.
use Rattle.terms.proofs.Common.{ap₂, ◌&&◌}
use Rattle.arcs.specs.Arcs.{arc_stays}
use Rattle.arcs.proofs.{Reach.bounds_framed}
use Rattle.arcs.proofs.staying.way_stays.Goals as goal

pub are_extremes_inside-requires : goal.are_extremes_inside-requires
are_extremes_inside-requires c =
    let s = c.args in
    rw (c.centre_of.ensures, c.in_plane-low.ensures, c.in_plane-high.ensures)
    (bounds_framed s.t s.from s.a s.u s.w c.requires.0 c.requires.1 c.requires.2)

pub returns : goal.returns
unfolding arc_stays
returns c =
    let q = c.squared_radius.ensures in
    let centre = c.centre_of.ensures in
    let high = c.in_plane-high.ensures in
    let low = c.in_plane-low.ensures in
    ap₂ ◌&&◌ c.is_inside.ensures (rw (q, centre, high, low) at c.are_extremes_inside.ensures)
