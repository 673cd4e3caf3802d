-- `work::planning::cycle_done` meets its contract.
use Rattle.blocks.specs.Motions.{cycle_done}
use Rattle.work.proofs.planning.cycle_done.Goals as goal

pub returns : goal.returns
unfolding cycle_done
returns c = rw (c.end_stands.ensures, c.is_some.ensures)
