-- `svg::forms::put_number` meets its contract: a sign where the number is below 0, and its digits.
use Rattle.terms.proofs.Common.{sym, ◌∙◌}
use Rattle.svg.proofs.{Digits.number_up, Digits.number_down, Filled.fills_then}
use Rattle.svg.proofs.forms.put_number.Goals as goal

pub returns-then-below : goal.returns-then-below
returns-then-below c =
    let e = sym (rw c.zero-2.ensures.is at c.below.ensures) ∙ c.if-below.true in
    rw (number_down c.args.n.v c.zero.result c.apart-size.result c.zero.ensures c.apart-size.ensures e) (fills_then c.put_byte-next.ensures c.put_digits.ensures)

pub returns : goal.returns
returns c =
    let e = sym (rw c.zero-2.ensures.is at c.below.ensures) ∙ c.if-below.false in
    rw (number_up c.args.n.v c.zero.result c.apart-size.result c.zero.ensures c.apart-size.ensures e) c.put_digits-2.ensures
