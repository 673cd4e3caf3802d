-- `arcs::staying::root_reaches` meets its contract.
use Rattle.arcs.specs.Arcs.{not_below}
use Rattle.arcs.proofs.staying.root_reaches.Goals as goal

pub returns : goal.returns
unfolding not_below
returns c = rw (c.at_most.ensures, c.square.ensures, c.minus.ensures.is)
