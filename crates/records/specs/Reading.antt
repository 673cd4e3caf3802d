-- Document 01, "The record list": its reader. "A reader refuses, in this order, an unknown mark, a record cut short or
-- another plane byte, with the byte place of its mark. At the list's end it says so; one last byte, or a place past the
-- end, is cut short."
use Rattle.std.specs.Prelude.{◌+◌, ◌&&◌, ◌∷◌, ◌++◌, if◌then◌else◌}
use Rattle.terms.specs.Common.{ℕ, zero, suc, Bool, true, false, Option, None, Some, List, [], ltb, eqb, length, get_or}
use Rattle.terms.specs.Terms.{first}
use Rattle.lengths.specs.{Units.len, Units.of_four, declared.Len.Len}
use Rattle.codes.specs.declared.Plane.{Plane, TheVariants.G17, TheVariants.G18, TheVariants.G19}
use Rattle.records.specs.declared.{Kind.Kind, Record.Record, Fault.TheVariants.UnknownMark, Fault.TheVariants.CutShort, Fault.TheVariants.OtherPlane, Listed.Listed}
use Rattle.records.specs.declared.Listed.TheVariants.{Next, End, Faulty}
use Rattle.records.specs.declared.Kind.TheVariants.{RP as rp, LN as ln, AR as ar, AL as al, DW as dw, SP as sp, SO as so, PA as pa, EN as en}
use Rattle.records.specs.Layout.{mark_of, has_plane, head_length, numbers_in, kind_length, plane_byte, record_of}

-- the kind whose mark stands at a place
unfoldable pub marked : List ℕ → ℕ → Kind → Bool
marked l at kind = eqb (get_or l at 0) (get_or (mark_of kind) 0 0) && eqb (get_or l (at + 1) 0) (get_or (mark_of kind) 1 0)

abbrev pub kinds : List Kind
kinds = rp ∷ ln ∷ ar ∷ al ∷ dw ∷ sp ∷ so ∷ pa ∷ en ∷ []

unfoldable pub kind_at : List ℕ → ℕ → Option Kind
kind_at l at = first (marked l at) kinds

-- the plane whose byte stands at a place
abbrev pub planes : List Plane
planes = G17 ∷ G18 ∷ G19 ∷ []

unfoldable pub plane_at : List ℕ → ℕ → Option Plane
plane_at l k = first (λ plane. eqb (get_or l k 0) (plane_byte plane)) planes

-- a record without a plane byte has none that could be wrong
unfoldable pub plane_for : Bool → List ℕ → ℕ → Option Plane
plane_for true l k = plane_at l k
plane_for false l k = Some G17

-- the number whose four bytes begin at a place, and so many numbers one after the other
abbrev pub len_at : List ℕ → ℕ → Len
len_at l k = len (of_four (get_or l k 0) (get_or l (k + 1) 0) (get_or l (k + 2) 0) (get_or l (k + 3) 0))

unfoldable pub numbers_at : ℕ → List ℕ → ℕ → List Len
numbers_at zero l k = []
numbers_at (suc n) l k = len_at l k ∷ numbers_at n l (k + 4)

unfoldable pub plane_read : List ℕ → ℕ → Kind → Option Plane → Listed
plane_read l at kind None = Faulty OtherPlane at
plane_read l at kind (Some plane) =
    Next (record_of kind plane (numbers_at (numbers_in kind) l (at + head_length kind))) (at + kind_length kind)

unfoldable pub kind_read : List ℕ → ℕ → Option Kind → Listed
kind_read l at None = Faulty UnknownMark at
kind_read l at (Some kind) =
    if ltb (length l) (at + kind_length kind) then Faulty CutShort at
    else plane_read l at kind (plane_for (has_plane kind) l (at + 2))

-- what the reader says of a list at a place
unfoldable pub read_at : List ℕ → ℕ → Listed
read_at l at =
    if eqb at (length l) then End
    else (if ltb (length l) (at + 2) then Faulty CutShort at
    else kind_read l at (kind_at l at))

-- reading record by record from a place, so many at most: the records, and what the reader says after them
pub record Trail : Type 0 where
  pub records : List Record
  pub last : Listed

abbrev pub trail : List Record → Listed → Trail
trail rs last = record { records = rs; last = last }

abbrev pub after : List Record → Trail → Trail
after rs t = trail (rs ++ t.records) t.last

unfoldable pub onward : Listed → (ℕ → Trail) → Trail
onward (Next r next) go = after (r ∷ []) (go next)
onward End go = trail [] End
onward (Faulty fault place) go = trail [] (Faulty fault place)

unfoldable pub read_all : ℕ → List ℕ → ℕ → Trail
read_all zero l at = trail [] (read_at l at)
read_all (suc n) l at = onward (read_at l at) (read_all n l)
