use Rattle.terms.proofs.Common.{◌+◌, ◌≡◌, length}
use Rattle.texts.specs.Texts.{word_at}
use Rattle.texts.proofs.word_end.Given as goal

abbrev pub invariant-loop-i : goal.invariant-loop-i
invariant-loop-i l = l.at + length (word_at l.s l.at) ≡ l.i + length (word_at l.s l.i)
