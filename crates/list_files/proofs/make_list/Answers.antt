-- `list_files::make_list` meets its contract: a part of the buffer is the run's room.
use Rattle.terms.proofs.Common.{◌≡◌, sym, arith, length, length-take-le}
use Rattle.list_files.proofs.{Listing.made}
use Rattle.list_files.proofs.make_list.Goals as goal

pub slice_bounds-report_in-end-2 : goal.slice_bounds-report_in-end-2
slice_bounds-report_in-end-2 c =
    sym (length-take-le c.room-room.result c.args.list.now (omega (arith, c.room-room.ensures, c.requires)))

pub returns : goal.returns
returns c =
    let a = c.args in
    let six : length a.setup.origins ≡ 6 = c.well_formed.0.1.1.1.1.1.1.0.1.0.1 in
    made a.setup six a.bytes.now a.options c.room-room.ensures c.requires c.report_in.ensures
