-- Laws of records written in machine units, one list after another. Assumes nothing.
use Rattle.terms.proofs.Common.{ℕ, ◌+◌, ◌*◌, ◌^◌, ◌≤◌, ◌≡◌, refl, sym, ◌∙◌, ap, List, [], ◌∷◌, ◌++◌, map, append_assoc, append-nil, arith, ℤ, ◌+ℤ◌, length}
use Rattle.lengths.{specs.View.Within, specs.View.Short, specs.declared.Point.Point, specs.Points.moved, specs.Points.flat, specs.Near.Near, proofs.Laws.sum_bal, proofs.Near.flat_near}
use Rattle.records.specs.{declared.Arc.Arc, declared.Record.Record, Path.path_of, Path.arc_moved, Path.record_moved, Displacing.LooseArc, Displacing.Loose, Serving.Wrote}
use Rattle.records.specs.declared.Record.TheVariants.{RP, LN, AR, AL, DW, SP, SO, PA, EN}
use Rattle.records.specs.Layout.{kind_of, kind_length, point_numbers, arc_numbers, numbers_of, record_bytes, list_bytes, room_of}
use Rattle.records.specs.Writing.{AllShort, ListShort, moved_bytes, Displaceable, RoomFor}
use Rattle.records.proofs.{Laid.list_length, Written.wrote_then, Written.wrote_none, Written.wrote_length}

-- ---- the room of records

pub room_append : (a b : List Record) → room_of (a ++ b) ≡ room_of a + room_of b
unfolding room_of
room_append [] b = omega arith
room_append (r ∷ a) b = omega (arith, room_append a b)

pub kind_few : (r : Record) → kind_length (kind_of r) ≤ 27
kind_few (RP p) = omega arith
kind_few (LN p feed) = omega arith
kind_few (AR a) = omega arith
kind_few (AL a) = omega arith
kind_few (DW ms) = omega arith
kind_few (SP speed) = omega arith
kind_few SO = omega arith
kind_few PA = omega arith
kind_few EN = omega arith

pub room_few : (rs : List Record) → room_of rs ≤ 27 * length rs
unfolding room_of
room_few [] = omega arith
room_few (r ∷ rs) = omega (arith, kind_few r, room_few rs)

-- ---- records after records

module _ (by : Point) where
  bytes_append : (a b : List Record) → moved_bytes by (a ++ b) ≡ moved_bytes by a ++ moved_bytes by b
  unfolding list_bytes
  bytes_append [] b = refl
  bytes_append (r ∷ a) b =
      ap (record_bytes (record_moved by r) ++◌) (bytes_append a b)
      ∙ sym (append_assoc (record_bytes (record_moved by r)) (moved_bytes by a) (moved_bytes by b))

  -- displaced records take the room that they took
  pub moved_kind : (r : Record) → kind_of (record_moved by r) ≡ kind_of r
  unfolding record_moved
  moved_kind (RP p) = refl
  moved_kind (LN p feed) = refl
  moved_kind (AR a) = refl
  moved_kind (AL a) = refl
  moved_kind (DW ms) = refl
  moved_kind (SP speed) = refl
  moved_kind SO = refl
  moved_kind PA = refl
  moved_kind EN = refl

  pub moved_room : (rs : List Record) → room_of (map (record_moved by) rs) ≡ room_of rs
  unfolding room_of
  moved_room [] = refl
  moved_room (r ∷ rs) = omega (arith, ap kind_length (moved_kind r), moved_room rs)

  pub put_one :
      {was is : List ℕ} {at next : ℕ} (r : Record)
      → Wrote was at (record_bytes (record_moved by r)) is next → Wrote was at (moved_bytes by (r ∷ [])) is next
  unfolding list_bytes
  put_one r w = rw (append-nil (record_bytes (record_moved by r))) w

  pub put_as :
      {was is : List ℕ} {at next : ℕ} {a b : List Record} → a ≡ b → Wrote was at (moved_bytes by b) is next → Wrote was at (moved_bytes by a) is next
  put_as e w = rw e w

  pub put_none : (was : List ℕ) (at : ℕ) → Wrote was at (moved_bytes by []) was at
  unfolding list_bytes
  put_none was at = wrote_none was at

  short_left : (a b : List Record) → ListShort (map (record_moved by) (a ++ b)) → ListShort (map (record_moved by) a)
  short_left [] b h = tt
  short_left (r ∷ a) b h = (h.0, short_left a b h.1)

  short_right : (a b : List Record) → ListShort (map (record_moved by) (a ++ b)) → ListShort (map (record_moved by) b)
  short_right [] b h = h
  short_right (r ∷ a) b h = short_right a b h.1

  pub short_both :
      (a b : List Record)
      → ListShort (map (record_moved by) a) → ListShort (map (record_moved by) b) → ListShort (map (record_moved by) (a ++ b))
  short_both [] b h k = k
  short_both (r ∷ a) b h k = (h.0, short_both a b h.1 k)

  module _ {list : List ℕ} {at : ℕ} where
    pub ready_as : {a b : List Record} → a ≡ b → RoomFor list at by a → RoomFor list at by b
    ready_as e h = rw e at h

    pub ready_left : (a b : List Record) → RoomFor list at by (a ++ b) → RoomFor list at by a
    ready_left a b h =
        record { room = omega (arith, h.room, room_append a b); offset = h.offset; short = short_left a b h.short }

  module _ {was mid : List ℕ} {at k : ℕ} (a b : List Record) (w : Wrote was at (moved_bytes by a) mid k) where
    -- records after records
    pub put_then : {is : List ℕ} {next : ℕ} → Wrote mid k (moved_bytes by b) is next → Wrote was at (moved_bytes by (a ++ b)) is next
    put_then q = rw (bytes_append a b) (wrote_then w q)

    -- and what they ask of the list as it is then
    pub room_right : at + room_of (a ++ b) ≤ length was → k + room_of b ≤ length mid
    room_right h = omega (arith, w.place, wrote_length w, list_length (map (record_moved by) a), moved_room a, room_append a b)

    pub ready_right : RoomFor was at by (a ++ b) → RoomFor mid k by b
    ready_right h = record { room = room_right h.room; offset = h.offset; short = short_right a b h.short }

-- ---- one record

-- what fits four bytes once displaced can be displaced
before_short : (a by : ℤ) → Within 1_000_000_000 by → Short (a +ℤ by) → Within (2 ^ 61) a
before_short a by h k = omega (arith, sum_bal a by)

point_loose : (by p : Point) → Near 1_000_000_000 by → AllShort (point_numbers (moved by p) []) → Near (2 ^ 61) p
unfolding moved
point_loose by p h k =
    record {
      x = before_short p.x.v by.x.v h.x k.0;
      y = before_short p.y.v by.y.v h.y k.1.0;
      z = before_short p.z.v by.z.v h.z k.1.1.0;
    }

arc_loose : (by : Point) (a : Arc) → Near 1_000_000_000 by → AllShort (arc_numbers (arc_moved by a)) → LooseArc a
unfolding arc_moved
arc_loose by a h k =
    let step = flat_near a.plane by h in
    record {
      end = point_loose by a.end h (k.0, (k.1.0, (k.1.1.0, tt)));
      first = before_short a.first.v (flat a.plane by).first.v step.first k.1.1.1.0;
      second = before_short a.second.v (flat a.plane by).second.v step.second k.1.1.1.1.0;
    }

loose : (by : Point) (r : Record) → Near 1_000_000_000 by → AllShort (numbers_of (record_moved by r)) → Loose (path_of r)
unfolding numbers_of record_moved path_of
loose by (RP p) h k = point_loose by p h k
loose by (LN p feed) h k = point_loose by p h (k.0, (k.1.0, (k.1.1.0, tt)))
loose by (AR a) h k = arc_loose by a h k
loose by (AL a) h k = arc_loose by a h k
loose by (DW ms) h k = tt
loose by (SP speed) h k = tt
loose by SO h k = tt
loose by PA h k = tt
loose by EN h k = tt

module _ (by : Point) (r : Record) where
  -- each sum that writing it asks for fits 64 bits
  pub one_sums : Displaceable by r → (Near (2 ^ 61) by) × Loose (path_of r)
  one_sums h = (omega (arith, h.offset), loose by r h.offset h.short)

  module _ {was : List ℕ} {at : ℕ} (h : RoomFor was at by (r ∷ [])) where
    pub one_fits : at + kind_length (kind_of r) ≤ length was
    unfolding room_of
    one_fits = omega (arith, h.room)

    pub one_short : Displaceable by r
    one_short = record { offset = h.offset; short = h.short.0 }
