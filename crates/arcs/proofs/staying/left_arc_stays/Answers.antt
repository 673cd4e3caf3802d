-- `arcs::staying::left_arc_stays` meets its contract: an end that was accepted is near the centre.
use Rattle.arcs.specs.Arcs.{arc_stays, left_way}
use Rattle.arcs.proofs.{Reach.end_near}
use Rattle.arcs.proofs.staying.left_arc_stays.Goals as goal

pub from_centre-requires-2 : goal.from_centre-requires-2
from_centre-requires-2 c =
    end_near c.args.from c.args.a c.requires.bounds.centre c.requires.holds

pub returns : goal.returns
unfolding arc_stays left_way
returns c = rw (c.way_stays.ensures, c.from_centre-2.ensures.is, c.from_centre.ensures.is)
