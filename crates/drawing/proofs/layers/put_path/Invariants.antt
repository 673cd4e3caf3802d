use Rattle.terms.proofs.Common.{ℕ, ◌-◌, List, ◌≡◌, length}
use Rattle.svg.{specs.Text.Fills}
use Rattle.drawing.specs.{Shapes.path, Walks.records_from}
use Rattle.drawing.proofs.layers.put_path.Given as goal

abbrev pub invariant-loop-r : goal.invariant-loop-r
invariant-loop-r l =
    (length l.out ≡ length l.initial.out)
    × ((is : List ℕ) (k : ℕ) → Fills l.out l.next (path l.view l.rapids l.from (records_from l.list l.place)) is k → Fills l.initial.out l.initial.next (path l.view l.rapids l.initial.from (records_from l.list l.initial.place)) is k)

abbrev pub decreases-loop-r : goal.decreases-loop-r
decreases-loop-r l = length l.list - l.place
