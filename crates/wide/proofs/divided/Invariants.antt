use Rattle.terms.proofs.Common.{◌+◌, ◌-◌, ◌*◌, ◌^◌}
use Rattle.wide.proofs.{Dividing.Brought}
use Rattle.wide.proofs.divided.Given as goal

abbrev pub invariant-loop : goal.invariant-loop
invariant-loop l = Brought (l.initial.rest * 2 ^ 64 + l.initial.low) l.by l.rest l.low (64 - l.counter)
