use Rattle.terms.proofs.Common.{◌≤◌, ◌+◌, ◌≡◌}
use Rattle.shop.specs.Knowing.{line_of}
use Rattle.shop.proofs.{Counting.ending}
use Rattle.shop.proofs.setup_files.line_of.Given as goal

abbrev pub invariant-loop-i : goal.invariant-loop-i
invariant-loop-i l =
    (l.number ≤ l.i + 1) × (line_of l.text l.at ≡ l.number + ending l.text l.at l.i)
