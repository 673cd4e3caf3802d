-- `wide::product` meets its contract.
use Rattle.terms.proofs.Common.{arith}
use Rattle.wide.proofs.{Multiplying.Small, Multiplying.small, Multiplying.four_products}
use Rattle.wide.proofs.product.Goals as goal

bounds : (c : goal.Start) → Small c.args.a c.args.b
bounds c = small c.args.a c.args.b c.ranges.a.fits c.ranges.b.fits

pub overflow_mul-first : goal.overflow_mul-first
overflow_mul-first c = omega (arith, bounds c)

pub overflow_mul-second : goal.overflow_mul-second
overflow_mul-second c = omega (arith, bounds c)

pub overflow_add-second : goal.overflow_add-second
overflow_add-second c = omega (arith, bounds c)

pub overflow_mul-third : goal.overflow_mul-third
overflow_mul-third c = omega (arith, bounds c)

pub overflow_add-third : goal.overflow_add-third
overflow_add-third c = omega (arith, bounds c)

pub overflow_mul-high : goal.overflow_mul-high
overflow_mul-high c = omega (arith, bounds c)

pub overflow_add-high : goal.overflow_add-high
overflow_add-high c = omega (arith, bounds c)

pub overflow_add-high-2 : goal.overflow_add-high-2
overflow_add-high-2 c = omega (arith, bounds c)

pub returns : goal.returns
returns c = omega (arith, four_products c.args.a c.args.b)
