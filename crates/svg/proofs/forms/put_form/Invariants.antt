use Rattle.terms.proofs.Common.{ℕ, List, drop}
use Rattle.svg.specs.Text.{Fills, filled}
use Rattle.svg.proofs.forms.put_form.Given as goal

abbrev pub invariant-loop-c : goal.invariant-loop-c
invariant-loop-c l =
    (is : List ℕ) (k : ℕ)
    → Fills l.out l.next (filled (drop l.c-index l.form) l.one l.two) is k → Fills l.initial.out l.initial.next (filled l.form l.initial.one l.initial.two) is k
