-- `settings::first_modes` meets its contract.
use Rattle.terms.proofs.Common.{refl}
use Rattle.settings.specs.Settings.{first_modes}
use Rattle.settings.proofs.first_modes.Goals as goal

pub returns : goal.returns
unfolding first_modes
returns c = refl
