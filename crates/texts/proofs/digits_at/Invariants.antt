use Rattle.texts.proofs.Worths.{Counting}
use Rattle.texts.proofs.digits_at.Given as goal

abbrev pub invariant-loop-i : goal.invariant-loop-i
invariant-loop-i l = Counting l.s l.from l.end l.value l.i
