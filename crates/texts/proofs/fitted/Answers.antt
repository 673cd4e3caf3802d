-- `texts::fitted` meets its contract: what fits is the number with its sign.
use Rattle.terms.proofs.Common.{◌∙◌}
use Rattle.texts.proofs.Worths.{minus_is, plus_is, settled}
use Rattle.texts.proofs.fitted.Goals as goal
use Rattle.texts.proofs.fitted.Goals.{in-Minus, in_default}

pub returns : goal.returns
returns c =
    let a = c.args in
    c.ok_or.ensures.value
    ∙ elim c.match-sign.branch [
      | in-Minus w ↦ settled a.sign a.n _ c.match-sign.fit c.map.result (rw w.in-Minus.is (minus_is a.n)) (rw (← w.fit-is) at w.checked_sub_unsigned-fit.ensures) c.map.ensures.cases (λ x r p. p.is)
      | in_default w ↦ settled a.sign a.n _ c.match-sign.fit c.map.result (plus_is a.sign a.n w.in_default.not-Minus) (rw (← w.fit-is) at w.checked_add_unsigned-fit.ensures) c.map.ensures.cases (λ x r p. p.is)
    ]
