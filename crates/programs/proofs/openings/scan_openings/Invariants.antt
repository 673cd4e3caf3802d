use Rattle.terms.proofs.Common.{◌-◌, ◌≤◌, length}
use Rattle.programs.specs.{declared.table.Programs.Programs}
use Rattle.programs.proofs.Scanning.{Scan, Passing}
use Rattle.programs.proofs.openings.scan_openings.Given as goal

abbrev pub invariant-loop-i : goal.invariant-loop-i
invariant-loop-i l =
    Passing l.s l.at l.i × (l.initial.at ≤ l.at) × ((began : Programs) → Scan l.s l.from l.number began l.initial.programs l.initial.at l.initial.block → Scan l.s l.from l.number began l.programs l.at l.block)

abbrev pub decreases-loop-i : goal.decreases-loop-i
decreases-loop-i l = length l.s - l.i

abbrev pub invariant-blocks-2 : goal.invariant-blocks-2
invariant-blocks-2 l = Scan l.s l.from l.number l.initial.programs l.programs l.at l.block

abbrev pub decreases-blocks-2 : goal.decreases-blocks-2
decreases-blocks-2 l = length l.s - l.at
