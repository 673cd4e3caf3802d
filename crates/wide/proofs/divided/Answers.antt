-- `wide::divided` meets its contract. At each turn the quotient and the rest are those of the digits that are brought down.
--
use Rattle.terms.proofs.Common.{◌+◌, ◌-◌, ◌≡◌, arith}
use Rattle.wide.specs.Wide.{worth}
use Rattle.wide.proofs.{Dividing.Brought, Dividing.none_brought, Dividing.next_digit, Dividing.quotient_is, Dividing.rest_is}
use Rattle.wide.proofs.divided.Goals as goal
use Rattle.wide.proofs.divided.Goals.{then-by-rest, else-by-rest}

pub loop-init : goal.loop-init
loop-init c = none_brought c.args.w.high c.args.w.low c.args.by (omega arith) (omega arith) (omega arith)

pub loop-preserved : goal.loop-preserved
loop-preserved c =
    let e : 64 - (c.loop.counter + 1) ≡ 64 - c.loop.counter - 1 = omega arith in
    rw e
    (elim c.if-by-rest.branch [
      | then-by-rest w ↦ next_digit c.loop.invariant (omega arith) 1 (omega arith) (omega arith) (omega arith) (omega arith)
      | else-by-rest w ↦ next_digit c.loop.invariant (omega arith) 0 (omega arith) (omega arith) (omega arith) (omega arith)
    ])

pub returns : goal.returns
returns c =
    let x = c.loop in
    let e : 64 - x.counter ≡ 0 = omega arith in
    let y : Brought (worth c.args.w) c.args.by x.rest x.low 0 = rw e at x.invariant in
    record { whole = quotient_is y; left = rest_is y }
