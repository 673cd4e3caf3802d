use Rattle.terms.proofs.Common.{◌≡◌, drop}
use Rattle.lines.specs.{Blocks.text_from, Closing.comment_at}
use Rattle.lines.proofs.gaps.comment_end.Given as goal

abbrev pub invariant-loop-i : goal.invariant-loop-i
invariant-loop-i l = comment_at l.at (text_from (drop l.at l.s)) ≡ comment_at l.i (text_from (drop l.i l.s))
