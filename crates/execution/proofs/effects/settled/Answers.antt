-- `execution::effects::settled` meets its contract.
use Rattle.execution.specs.Steps.{settled_at}
use Rattle.execution.proofs.{Small.is_five}
use Rattle.execution.proofs.effects.settled.Goals as goal

pub returns : goal.returns
unfolding settled_at
returns c = rw (c.ne.ensures, is_five c.args.misc)
