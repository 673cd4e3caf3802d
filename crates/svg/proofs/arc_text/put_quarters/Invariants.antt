use Rattle.terms.proofs.Common.{ℕ, ◌-◌, List}
use Rattle.arcs.specs.Bounds.{Small}
use Rattle.svg.specs.{Text.Fills, ArcText.quarters}
use Rattle.svg.proofs.arc_text.put_quarters.Given as goal

abbrev pub invariant-loop : goal.invariant-loop
invariant-loop l =
    Small l.d
    × ((is : List ℕ) (k : ℕ) → Fills l.out l.next (quarters l.s (3 - l.counter) l.d) is k → Fills l.initial.out l.initial.next (quarters l.s 3 l.initial.d) is k)
