use Rattle.terms.proofs.Common.{take}
use Rattle.svg.specs.Text.{Fills}
use Rattle.svg.proofs.forms.put_text.Given as goal

abbrev pub invariant-loop-b : goal.invariant-loop-b
invariant-loop-b l = Fills l.initial.out l.at (take l.b-index l.text) l.out l.next
