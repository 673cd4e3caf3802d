use Rattle.terms.proofs.Common.{drop}
use Rattle.cycles.specs.{Cycles.pass_to}
use Rattle.work.proofs.{Passing.Going}
use Rattle.work.proofs.writing.put_pass.Given as goal

abbrev pub invariant-loop-i : goal.invariant-loop-i
invariant-loop-i l = Going l.offset l.initial.list l.at (pass_to l.h l.level l.to) l.list l.next (drop l.i (pass_to l.h l.level l.to))
