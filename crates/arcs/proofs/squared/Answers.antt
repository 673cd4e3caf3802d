-- `arcs::squared` meets its contract.
use Rattle.terms.proofs.Common.{mul-le-mul, arith}
use Rattle.arcs.proofs.squared.Goals as goal

pub overflow_mul-result : goal.overflow_mul-result
overflow_mul-result c = omega (arith, mul-le-mul c.requires c.requires)
