use Rattle.terms.proofs.Common.{◌≡◌, true}
use Rattle.lengths.specs.Points.{inside}
use Rattle.cycles.specs.{Cycles.pass_to}
use Rattle.work.proofs.{Extents.Tested}
use Rattle.work.proofs.testing.check_pass.Given as goal

abbrev pub invariant-loop-i : goal.invariant-loop-i
invariant-loop-i l = Tested l.t l.e (pass_to l.h l.level l.to) l.i l.end l.room × (inside l.t l.end ≡ true)
