use Rattle.terms.proofs.Common.{◌+◌, ◌≡◌, length, drop}
use Rattle.lines.{specs.Blocks.text_from}
use Rattle.answers.proofs.places.text_end.Given as goal

abbrev pub invariant-loop-i : goal.invariant-loop-i
invariant-loop-i l = l.from + length (text_from (drop l.from l.s)) ≡ l.i + length (text_from (drop l.i l.s))
