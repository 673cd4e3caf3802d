use Rattle.answers.proofs.{Lines.Whole}
use Rattle.answers.proofs.places.block_start.Given as goal

abbrev pub invariant-loop-i : goal.invariant-loop-i
invariant-loop-i l = Whole l.s l.at l.i
