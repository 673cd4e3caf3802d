-- `setups::entry_at` meets its contract: the name where there is one, and the number.
use Rattle.std.specs.Prelude.{Err}
use Rattle.terms.proofs.Common.{◌≡◌, sym, ◌∙◌, rules}
use Rattle.setups.proofs.{Filling.entry_plain, Filling.entry_named, Filling.by_passed, Filling.by_not}
use Rattle.setups.proofs.entry_at.Goals as goal

pub returns-then-not-named : goal.returns-then-not-named
returns-then-not-named c =
    let a = c.args in
    c.number_at.ensures ∙ sym (entry_plain a.s.now a.at a.k a.named (c.if-not-named.true))

pub returns-in_err-after : goal.returns-in_err-after
returns-in_err-after c =
    let a = c.args in
    let handed : c.from_residual.result ≡ Err c.in_err-after.field-0.0 = search rules in
    handed ∙ sym (entry_named a.s.now a.at a.k a.named c.name_before.result (c.if-not-named.false) c.name_before.ensures ∙ by_not a.s.now c.name_before.result _ c.in_err-after.was)

pub returns : goal.returns
returns c =
    let a = c.args in
    c.number_at-2.ensures ∙ sym (entry_named a.s.now a.at a.k a.named c.name_before.result (c.if-not-named.false) c.name_before.ensures ∙ by_passed a.s.now c.name_before.result _ c.in_ok-after.was)
