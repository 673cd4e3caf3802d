-- `settings::cycle_words::under_by` meets its contract, whether the word stands or not.
use Rattle.settings.specs.CycleWords.{under_by}
use Rattle.settings.proofs.cycle_words.under_by.Goals as goal

pub returns-then-is_some : goal.returns-then-is_some
unfolding under_by
returns-then-is_some c = rw (← c.is_some.ensures, c.if-is_some.true)

pub returns-else-is_some : goal.returns-else-is_some
unfolding under_by
returns-else-is_some c = rw (← c.is_some.ensures, c.if-is_some.false)
