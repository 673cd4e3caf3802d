-- `settings::state_moved` meets its contract.
use Rattle.settings.specs.Settings.{state_moved}
use Rattle.settings.proofs.state_moved.Goals as goal

pub returns : goal.returns
unfolding state_moved
returns c = rw (c.moved.ensures.is, c.kept_moved.ensures)
