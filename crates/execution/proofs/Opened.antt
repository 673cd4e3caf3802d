-- One name that opens every rule of this layer and of those below it, for a claim that holds by computation.
use Rattle.work.proofs.Opened.{opened as work-opened}
use Rattle.execution.specs.Steps.{judged_from, settled_at, planned_records, checked_by}

unfoldable pub opened : Unit {0}
unfolding
    work-opened
    judged_from
    settled_at
    planned_records
    checked_by
opened = tt
