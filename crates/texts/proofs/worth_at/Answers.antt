-- `texts::worth_at` meets its contract: the sign, the digits after it, and the value of both.
use Rattle.terms.proofs.Common.{◌≡◌, ◌∙◌, arith, rules, slice, sym, ap}
use Rattle.std.specs.Prelude.{Err}
use Rattle.words.proofs.Numbers.{sign_most}
use Rattle.texts.specs.Figures.{worth_by, worth_of}
use Rattle.texts.proofs.{Worths.worth_is, Worths.none_worth}
use Rattle.texts.proofs.worth_at.Goals as goal

pub overflow_add-from : goal.overflow_add-from
overflow_add-from c = omega (arith, sign_most c.sign_of-sign.result)

pub digits_at-requires : goal.digits_at-requires
digits_at-requires c =
    (omega (arith, sign_most c.sign_of-sign.result), c.requires.1)

pub returns-in_err-n : goal.returns-in_err-n
unfolding worth_by
returns-in_err-n c =
    let by_parts : worth_by c.sign_of-sign.result c.digits_at.result
    ≡ worth_of (slice c.args.from c.args.end c.args.s.now) = worth_is _ _ _ c.sign_length.result _ _ c.requires.0 c.requires.1 c.sign_of-sign.ensures c.sign_length.ensures c.digits_at.ensures in
    let given : c.from_residual.result ≡ Err c.in_err-n.field-0.0 = search rules in
    given ∙ none_worth c.sign_of-sign.result c.digits_at.result c.in_err-n.field-0.0 c.in_err-n.ensures.value ∙ by_parts

pub returns : goal.returns
unfolding worth_by
returns c =
    let by_parts : worth_by c.sign_of-sign.result c.digits_at.result
    ≡ worth_of (slice c.args.from c.args.end c.args.s.now) = worth_is _ _ _ c.sign_length.result _ _ c.requires.0 c.requires.1 c.sign_of-sign.ensures c.sign_length.ensures c.digits_at.ensures in
    c.fitted.ensures ∙ sym (ap (worth_by c.sign_of-sign.result) c.in_ok-n.ensures.ok_part) ∙ by_parts
