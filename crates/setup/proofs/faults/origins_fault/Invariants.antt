use Rattle.terms.proofs.Common.{◌≡◌, drop}
use Rattle.setup.specs.Faults.{first_broken, origin_limits}
use Rattle.setup.proofs.faults.origins_fault.Given as goal

abbrev pub invariant-loop-i : goal.invariant-loop-i
invariant-loop-i l = first_broken (origin_limits 0 l.origin-items) ≡ first_broken (origin_limits l.i (drop l.i l.origin-items))
