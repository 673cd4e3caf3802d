use Rattle.terms.proofs.Common.{ℕ, ◌-◌, List}
use Rattle.arcs.specs.Bounds.{Small}
use Rattle.svg.specs.{Text.Fills, ArcText.extremes}
use Rattle.svg.proofs.arc_text.put_extremes.Given as goal

abbrev pub invariant-loop : goal.invariant-loop
invariant-loop l =
    Small l.e
    × ((is : List ℕ) (k : ℕ) → Fills l.out l.next (extremes l.s (4 - l.counter) l.e) is k → Fills l.initial.out l.initial.next (extremes l.s 4 l.initial.e) is k)
