-- `work::writing::put_brief` meets its contract: each arm writes the mark of its record, and the spindle's its speed.
use Rattle.terms.proofs.Common.{arith}
use Rattle.records.proofs.Written.{wrote_none, wrote_length}
use Rattle.records.specs.Layout.{plane_bytes, plane_of, numbers_of, number_bytes, record_bytes, list_bytes, room_of}
use Rattle.work.specs.Work.{brief_records}
use Rattle.work.proofs.writing.put_brief.Goals as goal

pub put_single-requires : goal.put_single-requires
unfolding brief_records room_of numbers_of
put_single-requires c =
    let fits = rw (c.in-Some.is, c.in-Speed.is) at c.requires.b_in_bounds in
    let short = rw (c.in-Some.is, c.in-Speed.is) at c.requires.list_short in
    (omega (arith, fits), short.0.0)

pub put_mark-requires : goal.put_mark-requires
unfolding brief_records room_of
put_mark-requires c = omega (arith, rw (c.in-Some.is, c.in-SpindleOff.is) at c.requires.b_in_bounds)

pub put_mark-requires-in-Pause : goal.put_mark-requires-in-Pause
unfolding brief_records room_of
put_mark-requires-in-Pause c = omega (arith, rw (c.in-Some.is, c.in-Pause.is) at c.requires.b_in_bounds)

pub put_mark-requires-in-End : goal.put_mark-requires-in-End
unfolding brief_records room_of
put_mark-requires-in-End c = omega (arith, rw (c.in-Some.is, c.in-End.is) at c.requires.b_in_bounds)

pub returns-in-Speed : goal.returns-in-Speed
unfolding brief_records list_bytes record_bytes plane_bytes numbers_of number_bytes plane_of
returns-in-Speed c = rw (c.in-Some.is, c.in-Speed.is) c.put_single.ensures

pub returns-in-SpindleOff : goal.returns-in-SpindleOff
unfolding brief_records list_bytes record_bytes plane_bytes numbers_of number_bytes plane_of
returns-in-SpindleOff c = rw (c.in-Some.is, c.in-SpindleOff.is) c.put_mark.ensures

pub returns-in-Pause : goal.returns-in-Pause
unfolding brief_records list_bytes record_bytes plane_bytes numbers_of number_bytes plane_of
returns-in-Pause c = rw (c.in-Some.is, c.in-Pause.is) c.put_mark-in-Pause.ensures

pub returns-in-End : goal.returns-in-End
unfolding brief_records list_bytes record_bytes plane_bytes numbers_of number_bytes plane_of
returns-in-End c = rw (c.in-Some.is, c.in-End.is) c.put_mark-in-End.ensures

pub returns-in_default : goal.returns-in_default
unfolding brief_records list_bytes record_bytes plane_bytes numbers_of number_bytes plane_of
returns-in_default c = rw c.in_default.is (wrote_none c.args.list.now c.args.at)

pub shape_of-list-in-Speed : goal.shape_of-list-in-Speed
shape_of-list-in-Speed c = wrote_length (returns-in-Speed c)

pub shape_of-list-in-SpindleOff : goal.shape_of-list-in-SpindleOff
shape_of-list-in-SpindleOff c = wrote_length (returns-in-SpindleOff c)

pub shape_of-list-in-Pause : goal.shape_of-list-in-Pause
shape_of-list-in-Pause c = wrote_length (returns-in-Pause c)

pub shape_of-list-in-End : goal.shape_of-list-in-End
shape_of-list-in-End c = wrote_length (returns-in-End c)
