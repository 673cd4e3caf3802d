-- `settings::cycle_words::kept_before` meets its contract, by the code that was on.
use Rattle.terms.proofs.Common.{sym, ◌∙◌}
use Rattle.settings.proofs.{Keeping.none_before, Keeping.kept_again, Keeping.kept_ended, Keeping.told_same}
use borrow.Enum.Refused.{opened}
use Rattle.settings.proofs.cycle_words.kept_before.Goals as goal

pub returns-in_default : goal.returns-in_default
returns-in_default c =
    let a = c.args in
    c.none_kept.ensures ∙ none_before a.cycle a.motion a.z a.kept (opened c.in_default.in_default-own.keys2)

pub returns-then-eq : goal.returns-then-eq
returns-then-eq c =
    let a = c.args in
    kept_again a.cycle a.z a.kept c.in-Drilling.is (sym (told_same a.cycle c.in-Drilling.other) ∙ sym c.eq.ensures ∙ c.if-eq.true)

pub returns : goal.returns
returns c =
    let a = c.args in
    kept_ended a.cycle a.z a.kept c.in-Drilling.is (sym (told_same a.cycle c.in-Drilling.other) ∙ sym c.eq.ensures ∙ c.if-eq.false)
    c.none_kept-2.ensures
