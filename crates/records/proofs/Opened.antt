-- One name that opens every rule of this layer and of those below it, for a claim that holds by computation.
use Rattle.terms.proofs.Opened.{opened as terms-opened}
use Rattle.lengths.proofs.Opened.{opened as lengths-opened}
use Rattle.codes.proofs.Opened.{opened as codes-opened}
use Rattle.records.specs.Layout.{plane_of, plane_bytes, numbers_of, number_bytes, record_bytes, list_bytes, room_of, record_of}
use Rattle.records.specs.Path.{path_of, path_end, end_of, path_stays_in, arc_moved, record_moved}
use Rattle.records.specs.Reading.{marked, kind_at, plane_at, plane_for, numbers_at, plane_read, kind_read, read_at, onward, read_all}

unfoldable pub opened : Unit {0}
unfolding
    terms-opened
    lengths-opened
    codes-opened
    plane_of
    plane_bytes
    numbers_of
    number_bytes
    record_bytes
    list_bytes
    room_of
    record_of
    path_of
    path_end
    end_of
    path_stays_in
    arc_moved
    record_moved
    marked
    kind_at
    plane_at
    plane_for
    numbers_at
    plane_read
    kind_read
    read_at
    onward
    read_all
opened = tt
