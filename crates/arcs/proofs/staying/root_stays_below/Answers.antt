-- `arcs::staying::root_stays_below` meets its contract.
use Rattle.arcs.specs.Arcs.{not_above}
use Rattle.arcs.proofs.staying.root_stays_below.Goals as goal

pub returns : goal.returns
unfolding not_above
returns c = rw (c.at_most.ensures, c.square.ensures, c.minus.ensures.is)
