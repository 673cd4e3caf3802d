-- `execution::effects::working` meets its contract.
use Rattle.blocks.specs.Exec.{working}
use Rattle.execution.proofs.{Small.is_three}
use Rattle.execution.proofs.effects.working.Goals as goal

pub returns : goal.returns
unfolding working
returns c =
    rw (c.or_else-feed.ensures, c.or_else-speed.ensures, c.eq.ensures, is_three c.args.b.misc, c.kept_by-kept.ensures)
