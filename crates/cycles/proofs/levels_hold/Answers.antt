-- `cycles::levels_hold` meets its contract, with Z and without.
use Rattle.cycles.specs.Cycles.{levels_hold}
use Rattle.cycles.proofs.levels_hold.Goals as goal

pub returns-in-Some : goal.returns-in-Some
unfolding levels_hold
returns-in-Some c = rw (c.at_most.ensures, c.at_most-in-Some.ensures, c.in-Some.is)

pub returns-in-None : goal.returns-in-None
unfolding levels_hold
returns-in-None c = rw (c.at_most-in-None.ensures, c.in-None.is)
