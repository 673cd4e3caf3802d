-- `settings::first_state` meets its contract.
use Rattle.settings.specs.Settings.{first_state}
use Rattle.settings.proofs.first_state.Goals as goal

pub returns : goal.returns
unfolding first_state
returns c = rw (c.first_modes.ensures, c.none_kept.ensures)
