-- `settings::cycle_words::kept_under` meets its contract, by the motion that is on.
use Rattle.terms.proofs.Common.{◌∙◌}
use Rattle.settings.specs.CycleWords.{kept_under}
use Rattle.settings.proofs.{Keeping.none_under}
use borrow.Enum.Refused.{opened}
use Rattle.settings.proofs.cycle_words.kept_under.Goals as goal

pub returns-in_default : goal.returns-in_default
returns-in_default c =
    let a = c.args in
    c.none_kept.ensures ∙ none_under a.motion a.s a.d a.v (opened c.in_default.in_default-own.keys2)

pub returns : goal.returns
unfolding kept_under
returns c =
    rw (c.in-Drilling.is, c.kept_with.ensures, c.kept_before.ensures)
