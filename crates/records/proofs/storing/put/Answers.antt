-- `records::storing::put` meets its contract: each arm writes the record of its kind.
use Rattle.terms.proofs.Common.{[], arith, ◌≡◌, refl, ◌∷◌}
use denote.Enum.Declared.{tag_of}
use types.Run.{OneOf, miss}
use Rattle.lengths.specs.declared.Point.{Point}
use Rattle.records.specs.{declared.Record.Record, Path.arc_moved, Path.record_moved}
use Rattle.records.specs.declared.Record.TheVariants.{RP, LN, AR, AL, DW, SP, SO, PA, EN}
use Rattle.records.specs.Layout.{kind_of, mark_of, plane_bytes, plane_of, numbers_of, number_bytes, record_bytes, room_of}
use Rattle.records.specs.contracts.Record.{the_type}
use Rattle.records.proofs.{Laid.mark_room, Written.wrote_length, Moved.put_one, Moved.one_fits}
use Rattle.records.proofs.storing.put.Goals as goal

-- the marks that have no arm of their own stand alone
marks : (by : Point) (r : Record) → OneOf (6 ∷ 7 ∷ 8 ∷ []) (tag_of the_type r) → record_bytes (record_moved by r) ≡ mark_of (kind_of r)
unfolding record_bytes plane_bytes plane_of numbers_of number_bytes record_moved
marks by (RP p) h = absurd (miss (6 ∷ 7 ∷ 8 ∷ []) 0 tt h)
marks by (LN p feed) h = absurd (miss (6 ∷ 7 ∷ 8 ∷ []) 1 tt h)
marks by (AR a) h = absurd (miss (6 ∷ 7 ∷ 8 ∷ []) 2 tt h)
marks by (AL a) h = absurd (miss (6 ∷ 7 ∷ 8 ∷ []) 3 tt h)
marks by (DW ms) h = absurd (miss (6 ∷ 7 ∷ 8 ∷ []) 4 tt h)
marks by (SP speed) h = absurd (miss (6 ∷ 7 ∷ 8 ∷ []) 5 tt h)
marks by SO h = refl
marks by PA h = refl
marks by EN h = refl

pub put_rapid-requires : goal.put_rapid-requires
put_rapid-requires c = rw c.in-RP.is at c.requires

pub put_cut-requires : goal.put_cut-requires
put_cut-requires c = rw c.in-LN.is at c.requires

pub put_turn-requires : goal.put_turn-requires
put_turn-requires c = rw c.in-AR.is at c.requires

-- an arc takes the same room by either mark
pub put_turn-requires-in-AL : goal.put_turn-requires-in-AL
unfolding numbers_of record_moved room_of
put_turn-requires-in-AL c =
    let h = rw c.in-AL.is at c.requires in
    record { room = h.room; offset = h.offset; short = h.short }

pub put_single-requires : goal.put_single-requires
unfolding numbers_of record_moved
put_single-requires c =
    let h = rw c.in-DW.is at c.requires in
    (omega (arith, one_fits c.args.by (DW c.in-DW.ms) h), h.short.0.0)

pub put_single-requires-in-SP : goal.put_single-requires-in-SP
unfolding numbers_of record_moved
put_single-requires-in-SP c =
    let h = rw c.in-SP.is at c.requires in
    (omega (arith, one_fits c.args.by (SP c.in-SP.speed) h), h.short.0.0)

pub put_mark-requires : goal.put_mark-requires
put_mark-requires c = omega (arith, mark_room (kind_of c.args.r), one_fits c.args.by c.args.r c.requires)

pub returns-in-RP : goal.returns-in-RP
returns-in-RP c = rw c.in-RP.is c.put_rapid.ensures

pub returns-in-LN : goal.returns-in-LN
returns-in-LN c = rw c.in-LN.is c.put_cut.ensures

pub returns-in-AR : goal.returns-in-AR
unfolding record_bytes plane_bytes plane_of numbers_of record_moved arc_moved
returns-in-AR c = rw c.in-AR.is (put_one c.args.by (AR c.in-AR.a) c.put_turn.ensures)

pub returns-in-AL : goal.returns-in-AL
unfolding record_bytes plane_bytes plane_of numbers_of record_moved arc_moved
returns-in-AL c = rw c.in-AL.is (put_one c.args.by (AL c.in-AL.a) c.put_turn-in-AL.ensures)

pub returns-in-DW : goal.returns-in-DW
unfolding record_bytes plane_bytes plane_of numbers_of record_moved
returns-in-DW c = rw c.in-DW.is (put_one c.args.by (DW c.in-DW.ms) c.put_single.ensures)

pub returns-in-SP : goal.returns-in-SP
unfolding record_bytes plane_bytes plane_of numbers_of record_moved
returns-in-SP c = rw c.in-SP.is (put_one c.args.by (SP c.in-SP.speed) c.put_single-in-SP.ensures)

pub returns-in_default : goal.returns-in_default
returns-in_default c =
    let a = c.args in
    put_one a.by a.r (rw (marks a.by a.r c.in_default.in_default-own.keys7, ← c.kind_of.ensures) c.put_mark.ensures)

pub shape_of-list-in-RP : goal.shape_of-list-in-RP
shape_of-list-in-RP c = wrote_length (returns-in-RP c)

pub shape_of-list-in-LN : goal.shape_of-list-in-LN
shape_of-list-in-LN c = wrote_length (returns-in-LN c)

pub shape_of-list-in-AR : goal.shape_of-list-in-AR
shape_of-list-in-AR c = wrote_length (returns-in-AR c)

pub shape_of-list-in-AL : goal.shape_of-list-in-AL
shape_of-list-in-AL c = wrote_length (returns-in-AL c)

pub shape_of-list-in-DW : goal.shape_of-list-in-DW
shape_of-list-in-DW c = wrote_length (returns-in-DW c)

pub shape_of-list-in-SP : goal.shape_of-list-in-SP
shape_of-list-in-SP c = wrote_length (returns-in-SP c)

pub shape_of-list-in_default : goal.shape_of-list-in_default
shape_of-list-in_default c = wrote_length (returns-in_default c)
