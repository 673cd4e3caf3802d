-- `settings::kept_moved` meets its contract.
use Rattle.settings.specs.Settings.{kept_moved}
use Rattle.settings.proofs.kept_moved.Goals as goal

pub returns : goal.returns
unfolding kept_moved
returns c = rw c.plus.ensures.is
