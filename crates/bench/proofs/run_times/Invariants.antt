use Rattle.terms.proofs.Common.{◌≡◌, length}
use Rattle.bench.proofs.run_times.Given as goal

abbrev pub invariant-loop : goal.invariant-loop
invariant-loop l = length l.list ≡ length l.initial.list
