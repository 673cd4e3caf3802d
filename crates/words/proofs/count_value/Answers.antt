-- `words::count_value` meets its contract.
use Rattle.terms.proofs.Common.{arith}
use Rattle.words.proofs.{Worth.count_most}
use Rattle.words.proofs.count_value.Goals as goal

pub of_count-requires : goal.of_count-requires
of_count-requires c = omega (arith, c.count_of.ensures, count_most c.args.n)
