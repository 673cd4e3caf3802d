use Rattle.std.specs.Prelude.{Err}
use Rattle.std.proofs.lemmas.Result.{err_from_is_err_and}
use Rattle.std.specs.Result.{result_ok}
use Rattle.terms.proofs.Common.{◌≡◌, sym, ◌∙◌, ap, arith, get_or}
use Rattle.refusals.specs.declared.Refusal.TheVariants.{Unreadable}
use Rattle.lines.proofs.Laws.{blank_is, blank_not}
use Rattle.reading.proofs.Items.{placed_blank, placed_open, placed_comment, placed_other, placed_none, placed_word, capital_is, capital_low, capital_high, from_place, taken_inside}
use Rattle.reading.proofs.item_at.Goals as goal

pub returns-in-32 : goal.returns-in-32
returns-in-32 c = let a = c.args in sym (placed_blank a.s.now a.i (blank_is _ c.in-32.is))

pub returns-in_err-after-in-40 : goal.returns-in_err-after-in-40
returns-in_err-after-in-40 c =
    let none = c.ok_or.ensures.ok_part ∙ ap result_ok c.in_err-after-in-40.was in
    let p = err_from_is_err_and c.from_residual.result c.from_residual.ensures.1 in
    let made : c.ok_or.result ≡ Err Unreadable = rw none at c.ok_or.ensures.value in
    let refusal = sym c.in_err-after-in-40.was ∙ made in
    let is : c.in_err-after-in-40.field-0.0 ≡ Unreadable = cc refusal in
    rw (p.1, p.2, is, placed_open c.args.s.now c.args.i c.in-40.is (sym c.comment_end.ensures ∙ none))

pub returns-in_ok-after-in-40 : goal.returns-in_ok-after-in-40
returns-in_ok-after-in-40 c =
    let some = c.ok_or.ensures.ok_part ∙ ap result_ok c.in_ok-after-in-40.was in
    sym (placed_comment c.args.s.now c.args.i c.in-40.is c.in_ok-after-in-40.after c.requires (sym c.comment_end.ensures ∙ some))

pub returns-in_default-read_number : goal.returns-in_default-read_number
returns-in_default-read_number c =
    let a = c.args in
    let other = c.in-65-to-90.in_default-own.rest in
    sym
    (placed_none a.s.now a.i (blank_not _ other.0.1) other.1 (capital_is (get_or a.s.now a.i 0) (omega arith) (omega arith))
    (from_place a.s.now a.i ∙ sym c.read_number.ensures ∙ c.in_default-read_number.is))

pub overflow_add-result : goal.overflow_add-result
overflow_add-result c =
    let a = c.args in
    omega (arith, taken_inside a.s.now a.i _ c.requires (from_place a.s.now a.i ∙ sym c.read_number.ensures ∙ c.in-Some.is))

pub returns-in-Some : goal.returns-in-Some
returns-in-Some c =
    let a = c.args in
    let other = c.in-65-to-90.in_default-own.rest in
    sym
    (placed_word a.s.now a.i (blank_not _ other.0.1) other.1 (capital_is (get_or a.s.now a.i 0) (omega arith) (omega arith)) _
    (from_place a.s.now a.i ∙ sym c.read_number.ensures ∙ c.in-Some.is))

pub returns-in_default : goal.returns-in_default
returns-in_default c =
    let a = c.args in
    let other = c.in_default.in_default-own.rest in
    sym (placed_other a.s.now a.i (blank_not _ other.0.1) other.1 (capital_low (get_or a.s.now a.i 0) (omega arith)))

pub returns-in_default-2 : goal.returns-in_default-2
returns-in_default-2 c =
    let a = c.args in
    let other = c.in_default.in_default-own.rest in
    sym (placed_other a.s.now a.i (blank_not _ other.0.1) other.1 (capital_high (get_or a.s.now a.i 0) (omega arith)))
