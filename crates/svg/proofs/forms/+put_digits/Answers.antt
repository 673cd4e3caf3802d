-- `svg::forms::put_digits` meets its contract: the digits of a tenth of the number, and the last one.
use Rattle.terms.proofs.Common.{arith}
use Rattle.svg.proofs.{Filled.fills_then, Digits.digits_none, Digits.digits_last, Digits.digits_more}
use Rattle.svg.proofs.forms.+put_digits.Goals as goal

pub returns-then-most-eq0 : goal.returns-then-most-eq0
returns-then-most-eq0 t c =
    let a = c.args in
    digits_none a.out.now a.at a.most a.n c.if-most-eq0.true

pub returns-then-n-lt10 : goal.returns-then-n-lt10
returns-then-n-lt10 t c =
    let a = c.args in
    rw (digits_last a.most a.n (omega arith) (omega arith)) c.put_byte.ensures

pub returns : goal.returns
returns t c =
    let a = c.args in
    rw (digits_more a.most a.n (omega arith) (omega arith)) (fills_then c.put_digits-last.ensures c.put_byte-2.ensures)
