-- Laws of the layout of records: how long each part is, and that a record is made of its parts. Assumes nothing.
use Rattle.std.specs.Prelude.{if◌then◌else◌}
use Rattle.terms.proofs.Common.{◌+◌, ◌*◌, ◌≤◌, ◌≡◌, refl, Bool, true, false, List, [], ◌∷◌, arith, length, length-append}
use Rattle.lengths.specs.declared.Len.{Len}
use Rattle.records.specs.declared.{Kind.Kind, Record.Record}
use Rattle.records.specs.declared.Kind.TheVariants.{RP as rp, LN as ln, AR as ar, AL as al, DW as dw, SP as sp, SO as so, PA as pa, EN as en}
use Rattle.records.specs.declared.Record.TheVariants.{RP, LN, AR, AL, DW, SP, SO, PA, EN}
use Rattle.records.specs.Layout.{kind_of, mark_of, has_plane, head_length, numbers_in, kind_length, plane_of, plane_bytes, numbers_of, number_bytes, record_bytes, list_bytes, room_of, record_of}

pub mark_length : (kind : Kind) → length (mark_of kind) ≡ 2
mark_length rp = refl
mark_length ln = refl
mark_length ar = refl
mark_length al = refl
mark_length dw = refl
mark_length sp = refl
mark_length so = refl
mark_length pa = refl
mark_length en = refl

pub mark_room : (kind : Kind) → 2 ≤ kind_length kind
mark_room kind = omega (arith, head (has_plane kind))
  where
    head : (b : Bool) → 2 ≤ (if b then 3 else 2)
    head true = omega arith
    head false = omega arith

pub head_length_lem : (r : Record) → 2 + length (plane_bytes r) ≡ head_length (kind_of r)
unfolding plane_bytes
head_length_lem (RP p) = refl
head_length_lem (LN p feed) = refl
head_length_lem (AR a) = refl
head_length_lem (AL a) = refl
head_length_lem (DW ms) = refl
head_length_lem (SP speed) = refl
head_length_lem SO = refl
head_length_lem PA = refl
head_length_lem EN = refl

pub count : (r : Record) → length (numbers_of r) ≡ numbers_in (kind_of r)
unfolding numbers_of
count (RP p) = refl
count (LN p feed) = refl
count (AR a) = refl
count (AL a) = refl
count (DW ms) = refl
count (SP speed) = refl
count SO = refl
count PA = refl
count EN = refl

numbers_length : (ns : List Len) → length (number_bytes ns) ≡ 4 * length ns
unfolding number_bytes
numbers_length [] = refl
numbers_length (n ∷ ns) = omega (arith, numbers_length ns)

pub record_length : (r : Record) → length (record_bytes r) ≡ kind_length (kind_of r)
unfolding record_bytes
record_length r =
    simp length-append
    (omega (arith, mark_length (kind_of r), head_length_lem r, numbers_length (numbers_of r), count r))

pub list_length : (rs : List Record) → length (list_bytes rs) ≡ room_of rs
unfolding list_bytes room_of
list_length [] = refl
list_length (r ∷ rs) = omega (arith, length-append (record_bytes r) (list_bytes rs), record_length r, list_length rs)

-- a record is what its kind, its plane and its numbers make
pub own : (r : Record) → record_of (kind_of r) (plane_of r) (numbers_of r) ≡ r
unfolding record_of plane_of numbers_of
own (RP p) = refl
own (LN p feed) = refl
own (AR a) = refl
own (AL a) = refl
own (DW ms) = refl
own (SP speed) = refl
own SO = refl
own PA = refl
own EN = refl
