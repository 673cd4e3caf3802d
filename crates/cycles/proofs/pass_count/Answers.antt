-- `cycles::pass_count` meets its contract.
use Rattle.terms.proofs.Common.{◌≡◌, ap, arith, nat_abs}
use Rattle.lengths.proofs.Laws.{abs_sum}
use Rattle.cycles.specs.Cycles.{pass_count}
use Rattle.cycles.proofs.pass_count.Goals as goal

pub returns-in-Some : goal.returns-in-Some
unfolding pass_count
returns-in-Some c =
    let n = c.in-Some.n in
    let e : c.apart.result ≡ nat_abs n.v = omega (arith, abs_sum n.v) in
    let few = rw c.in-Some.is at c.requires in
    record { is = rw (e, c.in-Some.is); few = omega (arith, abs_sum n.v, few) }

pub returns-in-None : goal.returns-in-None
unfolding pass_count
returns-in-None c = record { is = rw c.in-None.is; few = omega arith }
