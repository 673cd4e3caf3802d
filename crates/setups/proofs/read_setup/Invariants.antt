use Rattle.setups.specs.Setups.{plan}
use Rattle.setups.proofs.{Filling.Filled}
use Rattle.setups.proofs.read_setup.Given as goal

abbrev pub invariant-loop-k : goal.invariant-loop-k
invariant-loop-k l = Filled (plan l.named) l.s l.numbers l.k l.at
