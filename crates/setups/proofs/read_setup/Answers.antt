-- `setups::read_setup` meets its contract: the numbers read stand in their places, and the rest of the text gives the rest.
use Rattle.std.specs.Prelude.{Err}
use Rattle.terms.proofs.Common.{◌≡◌, refl, sym, ap, ◌∙◌, arith, rules}
use Rattle.setups.specs.Setups.{answered}
use Rattle.setups.proofs.{Filling.plan_length, Filling.none_filled, Filling.one_filled, Filling.stopped, Filling.all_filled, Filling.setup_in_lem}
use Rattle.setups.proofs.read_setup.Goals as goal

pub loop-k-init : goal.loop-k-init
loop-k-init c = none_filled _ _ _ refl

pub returns-in_err-entry : goal.returns-in_err-entry
returns-in_err-entry c =
    let named = c.is_named-named in
    let handed : c.from_residual.result ≡ Err c.in_err-entry.field-0.0 = search rules in
    handed
    ∙ stopped _ _ _ _ _ (plan_length named.result) c.loop-k.invariant _ (omega arith) (sym c.entry_at.ensures ∙ c.in_err-entry.was)
    ∙ setup_in_lem _ _ named.ensures

pub loop-k-preserved : goal.loop-k-preserved
loop-k-preserved c =
    let named = c.is_named-named in
    one_filled _ _ _ _ _ (plan_length named.result) c.loop-k.invariant _ _ (omega arith) (sym c.entry_at.ensures ∙ c.in_ok-entry.was)

pub returns : goal.returns
returns c =
    let named = c.is_named-named in
    c.finished.ensures
    ∙ ap answered (sym (all_filled _ _ _ _ _ (plan_length named.result) c.loop-k.invariant (omega arith)))
    ∙ setup_in_lem _ _ named.ensures
