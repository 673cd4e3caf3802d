-- `centres::radius_holds` meets its contract: an end that is too far on one axis is too far, and any other is near enough for the
-- squares to fit.
use Rattle.terms.proofs.Common.{◌≡◌, sym, arith, le-leb, nat_abs}
use Rattle.lengths.proofs.Laws.{abs_sum, sq_near}
use Rattle.centres.specs.Centres.{radius_holds}
use Rattle.centres.proofs.{Computing.small_refused, Computing.first_refused, Computing.second_refused}
use Rattle.centres.proofs.radius_holds.Goals as goal

pub returns-then-size-lt3000 : goal.returns-then-size-lt3000
returns-then-size-lt3000 c =
    let size_is : c.apart-size.result ≡ nat_abs c.args.r.v = omega (arith, abs_sum c.args.r.v) in
    let s = c.args in
    sym (small_refused s.r.v s.from s.to (omega (arith, size_is)))

pub returns-then-size-apart : goal.returns-then-size-apart
returns-then-size-apart c =
    let size_is : c.apart-size.result ≡ nat_abs c.args.r.v = omega (arith, abs_sum c.args.r.v) in
    let s = c.args in
    sym (first_refused s.r.v s.from s.to (rw (size_is, c.apart.ensures.is) at c.if-size-apart.true))

pub returns-then-size-apart-2 : goal.returns-then-size-apart-2
returns-then-size-apart-2 c =
    let size_is : c.apart-size.result ≡ nat_abs c.args.r.v = omega (arith, abs_sum c.args.r.v) in
    let s = c.args in
    sym (second_refused s.r.v s.from s.to (rw (size_is, c.apart-2.ensures.is) at c.if-size-apart-2.true))

pub overflow_mul-result : goal.overflow_mul-result
overflow_mul-result c =
    rw c.square.ensures (omega (arith, sq_near c.args.r.v c.requires.radius))

pub returns : goal.returns
unfolding radius_holds
returns c =
    let size_is : c.apart-size.result ≡ nat_abs c.args.r.v = omega (arith, abs_sum c.args.r.v) in
    let r = nat_abs c.args.r.v in
    rw (le-leb 3_000 r (rw size_is at c.if-size-lt3000.false), c.squared_distance-chord.ensures, c.square.ensures)
