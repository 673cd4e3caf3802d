-- At each turn r is the root of the digits of q that are brought down, and `rest` what they are above its square; `pairs` pairs of
-- digits are not brought down yet.
use Rattle.terms.proofs.Common.{◌*◌, ◌/◌, ◌^◌}
use Rattle.arcs.proofs.Root.{Brought}
use Rattle.arcs.proofs.root_of.Given as goal

abbrev pub invariant-loop-pairs : goal.invariant-loop-pairs
invariant-loop-pairs l = Brought (l.q / 2 ^ (2 * l.pairs)) l.r l.rest
