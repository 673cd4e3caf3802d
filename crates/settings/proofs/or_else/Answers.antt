-- `settings::or_else` meets its contract.
use Rattle.settings.specs.Settings.{or_else}
use Rattle.settings.proofs.or_else.Goals as goal

pub returns : goal.returns
unfolding or_else
returns c = c.unwrap_or.ensures
