-- `settings::cycle_words::none_kept` meets its contract.
use Rattle.settings.specs.Settings.{none_kept}
use Rattle.settings.proofs.cycle_words.none_kept.Goals as goal

pub returns : goal.returns
unfolding none_kept
returns c = rw (c.zero.ensures.is, c.zero-2.ensures.is, c.zero-3.ensures.is)
