use Rattle.terms.proofs.Common.{◌+◌}
use Rattle.programs.proofs.Figures.{Passed}
use Rattle.programs.proofs.read_digits.Given as goal

abbrev pub invariant-loop-count : goal.invariant-loop-count
invariant-loop-count l = Passed l.s l.at l.count l.value (l.at + l.count)
