-- `settings::cycle_words::stands_with` meets its contract.
use Rattle.settings.specs.CycleWords.{stands_with}
use Rattle.settings.proofs.cycle_words.stands_with.Goals as goal

pub returns : goal.returns
unfolding stands_with
returns c = rw (c.is_some.ensures, c.is_some-2.ensures, c.is_some-3.ensures)
