-- `words::pack` meets its contract.
use Rattle.terms.proofs.Common.{◌<◌, arith}
use mir.Val.{bool_byte}
use Rattle.words.specs.Packed.{packed}
use Rattle.words.proofs.{Packed.sign_small, Packed.point_small}
use Rattle.words.proofs.pack.Goals as goal

pub overflow_mul-result-3 : goal.overflow_mul-result-3
unfolding packed
overflow_mul-result-3 c =
    let small : (c.sign_number.result < 4) × (bool_byte c.args.w.number.point < 2) = (rw c.sign_number.ensures (sign_small _), point_small c.args.w.number.point) in
    omega (arith, small.0)

pub overflow_add-result-2 : goal.overflow_add-result-2
unfolding packed
overflow_add-result-2 c =
    let small : (c.sign_number.result < 4) × (bool_byte c.args.w.number.point < 2) = (rw c.sign_number.ensures (sign_small _), point_small c.args.w.number.point) in
    omega (arith, small.0)

pub overflow_add-result-3 : goal.overflow_add-result-3
unfolding packed
overflow_add-result-3 c =
    let small : (c.sign_number.result < 4) × (bool_byte c.args.w.number.point < 2) = (rw c.sign_number.ensures (sign_small _), point_small c.args.w.number.point) in
    omega (arith, small.0, small.1)

pub overflow_add-result-4 : goal.overflow_add-result-4
unfolding packed
overflow_add-result-4 c =
    let small : (c.sign_number.result < 4) × (bool_byte c.args.w.number.point < 2) = (rw c.sign_number.ensures (sign_small _), point_small c.args.w.number.point) in
    omega (arith, small.0, small.1)

pub returns : goal.returns
unfolding packed
returns c = rw c.sign_number.ensures
