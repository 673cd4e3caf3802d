-- `settings::cycle_words::kept_with` meets its contract, letter by letter.
use Rattle.settings.specs.CycleWords.{kept_with}
use Rattle.settings.proofs.cycle_words.kept_with.Goals as goal

pub returns : goal.returns
unfolding kept_with
returns c =
    rw (
      c.or_else.ensures,
      c.or_else-2.ensures,
      c.or_else-3.ensures,
      c.stands_with.ensures,
      c.under_with.ensures,
    )
