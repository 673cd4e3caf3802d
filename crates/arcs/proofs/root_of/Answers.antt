-- `arcs::root_of` meets its contract. At each turn r is the root of the digits of q that are brought down, and `rest` what they are
-- above its square.
use Rattle.terms.proofs.Common.{◌-◌, ◌*◌, ◌/◌, ◌^◌, ◌<◌, ◌≡◌, div-eq_of_lt, div-one, div-le_self, arith, rules}
use Rattle.arcs.proofs.{Root.Brought, Root.quarter, Root.digit_one, Root.digit_zero, Root.root_one, Root.root_is}
use Rattle.arcs.proofs.root_of.Goals as goal

pub loop-pairs-init : goal.loop-pairs-init
loop-pairs-init c =
    let e : c.args.q / 2 ^ 64 ≡ 0 = div-eq_of_lt c.ranges.q.fits in
    rw e (record { is_root = record { not_above = omega arith; largest = omega arith }; left = omega arith; small = omega arith })

-- `below` is the number of the digits that are brought down in a turn
pub loop-pairs-preserved-then-r-rest : goal.loop-pairs-preserved-then-r-rest
loop-pairs-preserved-then-r-rest c =
    let below = c.args.q / 2 ^ (2 * (c.loop-pairs.pairs - 1)) in
    let fits : below < 2 ^ 64 = omega (arith, div-le_self c.args.q (2 ^ (2 * (c.loop-pairs.pairs - 1)))) in
    let was : Brought (below / 4) c.loop-pairs.r c.loop-pairs.rest = rw (quarter c.args.q c.loop-pairs.pairs c.loop-pairs-test.true) at c.loop-pairs.invariant in
    digit_one below c.loop-pairs.r c.loop-pairs.rest fits was c.if-r-rest.true

pub loop-pairs-preserved : goal.loop-pairs-preserved
loop-pairs-preserved c =
    let below = c.args.q / 2 ^ (2 * (c.loop-pairs.pairs - 1)) in
    let fits : below < 2 ^ 64 = omega (arith, div-le_self c.args.q (2 ^ (2 * (c.loop-pairs.pairs - 1)))) in
    let was : Brought (below / 4) c.loop-pairs.r c.loop-pairs.rest = rw (quarter c.args.q c.loop-pairs.pairs c.loop-pairs-test.true) at c.loop-pairs.invariant in
    digit_zero below c.loop-pairs.r c.loop-pairs.rest fits was c.if-r-rest.false

pub returns : goal.returns
returns c =
    let x = c.loop-pairs in
    let e : x.pairs ≡ 0 = omega arith in
    root_one (rw (e, div-one) at x.invariant.is_root) (root_is c.args.q (search rules))
