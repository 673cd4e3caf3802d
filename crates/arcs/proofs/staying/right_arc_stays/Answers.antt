-- `arcs::staying::right_arc_stays` meets its contract: an end that was accepted is near the centre.
use Rattle.arcs.specs.Arcs.{arc_stays, right_way}
use Rattle.arcs.proofs.{Reach.end_near}
use Rattle.arcs.proofs.staying.right_arc_stays.Goals as goal

pub from_centre-requires : goal.from_centre-requires
from_centre-requires c =
    let x = c in
    end_near x.args.from x.args.a x.requires.bounds.centre x.requires.holds

pub returns : goal.returns
unfolding arc_stays right_way
returns c = rw (c.way_stays.ensures, c.from_centre-2.ensures.is, c.from_centre.ensures.is)
