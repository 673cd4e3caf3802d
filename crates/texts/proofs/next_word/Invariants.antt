use Rattle.terms.proofs.Common.{◌+◌, ◌≡◌, drop}
use Rattle.texts.specs.Texts.{gap, next}
use Rattle.texts.proofs.next_word.Given as goal

abbrev pub invariant-loop-i : goal.invariant-loop-i
invariant-loop-i l = next l.s l.at ≡ l.i + gap l.inside (drop l.i l.s)
