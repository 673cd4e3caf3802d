-- `lengths::Len::square` meets its contract: the distance from 0 is at most 2 ^ 32 − 1, so its square fits.
use Rattle.terms.proofs.Common.{◌≤◌, ◌≡◌, mul-le-mul, arith, nat_abs}
use Rattle.lengths.proofs.{Laws.abs_sum}
use Rattle.lengths.proofs.Len.square.Goals as goal

pub overflow_mul-result : goal.overflow_mul-result
overflow_mul-result c =
    let h : c.apart-n.result ≤ 4294967295 = omega arith in
    omega (arith, mul-le-mul h h)

pub returns : goal.returns
returns c =
    let e : c.apart-n.result ≡ nat_abs c.args.self.v = omega (arith, abs_sum c.args.self.v) in
    rw e
