use Rattle.terms.proofs.Common.{◌≤◌, ◌≡◌, length}
use Rattle.iswenaid.proofs.gather.Given as goal

abbrev pub invariant-loop-i : goal.invariant-loop-i
invariant-loop-i g l = (l.at ≤ length l.line) × (length l.line ≡ length l.initial.line)
