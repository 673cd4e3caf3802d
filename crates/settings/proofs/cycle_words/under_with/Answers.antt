-- `settings::cycle_words::under_with` meets its contract.
use Rattle.settings.specs.CycleWords.{under_with}
use Rattle.settings.proofs.cycle_words.under_with.Goals as goal

pub returns : goal.returns
unfolding under_with
returns c = rw (c.under_by.ensures, c.under_by-2.ensures)
