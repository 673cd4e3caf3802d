-- The records of the spindle and of the M code lead nowhere and are the same in machine units. Assumes nothing.
use Rattle.terms.proofs.Common.{ℕ, ◌+◌, ◌≤◌, ◌≡◌, refl, true, Option, None, Some, List, [], ◌∷◌, map, arith, length}
use denote.Enum.Declared.{tag_of}
use types.Run.{OneOf, miss}
use Rattle.lengths.specs.declared.{Point.Point, Travel.Travel}
use Rattle.records.specs.{declared.Record.Record, declared.Kind.TheVariants.SO as so, Layout.kind_length, Layout.list_bytes, Layout.room_of}
use Rattle.records.specs.{Path.still, Path.path_of, Path.path_end, Path.end_of, Path.path_stays_in, Path.record_moved, Serving.Wrote, Writing.ListShort, Writing.moved_bytes, Writing.RoomFor}
use Rattle.arcs.specs.{Arcs.path_stays, Staying.stays_in}
use Rattle.work.specs.{declared.Brief.Brief, declared.Extent.Extent, Work.brief_records, Work.grown}
use Rattle.work.specs.declared.Brief.TheVariants.{Speed, SpindleOff, Pause, End}
use Rattle.work.{specs.contracts.Brief.the_type, proofs.Extents.grown_one}

abbrev pub AllStill : List Record → Type 0
AllStill [] = Unit
AllStill (r ∷ rs) = (path_of r ≡ still) × AllStill rs

pub brief_still : (b : Option Brief) → AllStill (brief_records b)
unfolding brief_records path_of
brief_still (Some (Speed speed)) = (refl, tt)
brief_still (Some SpindleOff) = (refl, tt)
brief_still (Some Pause) = (refl, tt)
brief_still (Some End) = (refl, tt)
brief_still None = tt

pub still_ends : (from : Point) (rs : List Record) → AllStill rs → end_of from rs ≡ from
unfolding end_of path_end
still_ends from [] h = refl
still_ends from (r ∷ rs) h = rw h.0 (still_ends from rs h.1)

pub still_stays : (t : Travel) (from : Point) (rs : List Record) → AllStill rs → stays_in t from rs ≡ true
unfolding path_stays_in path_stays path_end
still_stays t from [] h = refl
still_stays t from (r ∷ rs) h = rw h.0 (still_stays t from rs h.1)

pub brief_few : (b : Option Brief) → length (brief_records b) ≤ 1
unfolding brief_records
brief_few (Some (Speed speed)) = omega arith
brief_few (Some SpindleOff) = omega arith
brief_few (Some Pause) = omega arith
brief_few (Some End) = omega arith
brief_few None = omega arith

-- ---- what such a record comes to

-- but for the spindle's it is its mark alone
pub grown_mark :
    (e : Extent) (b : Brief) → OneOf (1 ∷ 2 ∷ 3 ∷ []) (tag_of the_type b) → {n : ℕ} → n ≡ kind_length so
    → record { end = e.end; room = e.room + n; count = e.count + 1 } ≡ grown e (brief_records (Some b))
unfolding brief_records path_end path_of
grown_mark e (Speed speed) h f = absurd (miss (1 ∷ 2 ∷ 3 ∷ []) 0 tt h)
grown_mark e SpindleOff h f = grown_one e _ refl f
grown_mark e Pause h f = grown_one e _ refl f
grown_mark e End h f = grown_one e _ refl f

-- ---- writing it

module _ (by : Point) (b : Option Brief) where
  brief_moved : map (record_moved by) (brief_records b) ≡ brief_records b
  unfolding brief_records record_moved
  brief_moved = same b
    where
      same : (k : Option Brief) → map (record_moved by) (brief_records k) ≡ brief_records k
      same (Some (Speed speed)) = refl
      same (Some SpindleOff) = refl
      same (Some Pause) = refl
      same (Some End) = refl
      same None = refl

  pub brief_asks : {list : List ℕ} {at : ℕ} → RoomFor list at by (brief_records b) → (at + room_of (brief_records b) ≤ length list) × ListShort (brief_records b)
  brief_asks h = (h.room, rw brief_moved at h.short)

  pub brief_put : {was is : List ℕ} {at next : ℕ} → Wrote was at (list_bytes (brief_records b)) is next → Wrote was at (moved_bytes by (brief_records b)) is next
  brief_put w = rw brief_moved w
