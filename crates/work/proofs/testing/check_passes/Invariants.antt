use Rattle.terms.proofs.Common.{◌-◌}
use Rattle.work.specs.{declared.Pass.TheVariants.Drill}
use Rattle.work.proofs.Passing.{Leads}
use Rattle.work.proofs.testing.check_passes.Given as goal

abbrev pub invariant-loop : goal.invariant-loop
invariant-loop l = Leads l.t (Drill l.h) l.passes l.aim l.initial.so_far l.so_far (l.passes - l.counter)
