-- One name that opens every rule of this layer and of those below it, for a claim that holds by computation.
use Rattle.blocks.proofs.Opened.{opened as blocks-opened}
use Rattle.work.specs.Work.{rows_of, passes_of, work_records, straight_record, arc_record, is_clockwise, lies_left, brief_records, pass_fits, grown, way_of}

unfoldable pub opened : Unit {0}
unfolding
    blocks-opened
    rows_of
    passes_of
    work_records
    straight_record
    arc_record
    is_clockwise
    lies_left
    brief_records
    pass_fits
    grown
    way_of
opened = tt
