-- Document 01, "The record list": how a record lies in the list. Writing and reading both go by this one layout.
-- "A two-byte mark before each record; numbers are four bytes, little end first, signed; points and centres are machine
-- units."
use Rattle.std.specs.Prelude.{◌+◌, ◌*◌, ◌∷◌, ◌++◌, if◌then◌else◌}
use Rattle.terms.specs.Common.{ℕ, Bool, true, false, List, [], pos, get_or}
use Rattle.terms.specs.Terms.{bytes}
use Rattle.lengths.specs.{Units.len, Units.four_bytes, declared.Len.Len, declared.Point.Point}
use Rattle.codes.specs.{Codes.plane_number, declared.Plane.Plane, declared.Plane.TheVariants.G17}
use Rattle.records.specs.declared.{Arc.Arc, Kind.Kind, Record.Record}
use Rattle.records.specs.declared.Kind.TheVariants.{RP as rp, LN as ln, AR as ar, AL as al, DW as dw, SP as sp, SO as so, PA as pa, EN as en}
use Rattle.records.specs.declared.Record.TheVariants.{RP, LN, AR, AL, DW, SP, SO, PA, EN}

abbrev pub kind_of : Record → Kind
kind_of (RP p) = rp
kind_of (LN p feed) = ln
kind_of (AR a) = ar
kind_of (AL a) = al
kind_of (DW ms) = dw
kind_of (SP speed) = sp
kind_of SO = so
kind_of PA = pa
kind_of EN = en

abbrev pub mark_of : Kind → List ℕ
mark_of rp = bytes "RP"
mark_of ln = bytes "LN"
mark_of ar = bytes "AR"
mark_of al = bytes "AL"
mark_of dw = bytes "DW"
mark_of sp = bytes "SP"
mark_of so = bytes "SO"
mark_of pa = bytes "PA"
mark_of en = bytes "EN"

-- how many numbers a record has: "`RP` x y z. `LN` x y z feed. `AR` (clockwise), `AL`: .. x y z, first and second
-- centre coordinate, feed. `DW` ms. `SP` speed. `SO`, `PA`, `EN` alone."
abbrev pub numbers_in : Kind → ℕ
numbers_in rp = 3
numbers_in ln = 4
numbers_in ar = 6
numbers_in al = 6
numbers_in dw = 1
numbers_in sp = 1
numbers_in so = 0
numbers_in pa = 0
numbers_in en = 0

-- "`AR` (clockwise), `AL`: one byte 17, 18 or 19, then .."
abbrev pub has_plane : Kind → Bool
has_plane rp = false
has_plane ln = false
has_plane ar = true
has_plane al = true
has_plane dw = false
has_plane sp = false
has_plane so = false
has_plane pa = false
has_plane en = false

-- where the numbers begin, after the mark and the plane byte, and the bytes of the whole record
abbrev pub head_length : Kind → ℕ
head_length kind = if has_plane kind then 3 else 2

abbrev pub kind_length : Kind → ℕ
kind_length kind = head_length kind + 4 * numbers_in kind

-- the number of the plane's code
abbrev pub plane_byte : Plane → ℕ
plane_byte = plane_number

-- the plane of a record; G17 stands for the plane of one that has none, and is not written
unfoldable pub plane_of : Record → Plane
plane_of (RP p) = G17
plane_of (LN p feed) = G17
plane_of (AR a) = a.plane
plane_of (AL a) = a.plane
plane_of (DW ms) = G17
plane_of (SP speed) = G17
plane_of SO = G17
plane_of PA = G17
plane_of EN = G17

unfoldable pub plane_bytes : Record → List ℕ
plane_bytes r = if has_plane (kind_of r) then plane_byte (plane_of r) ∷ [] else []

-- the numbers of a record in layout order
abbrev pub point_numbers : Point → List Len → List Len
point_numbers p ns = p.x ∷ p.y ∷ p.z ∷ ns

abbrev pub arc_numbers : Arc → List Len
arc_numbers a = point_numbers a.end (a.first ∷ a.second ∷ a.feed ∷ [])

unfoldable pub numbers_of : Record → List Len
numbers_of (RP p) = point_numbers p []
numbers_of (LN p feed) = point_numbers p (feed ∷ [])
numbers_of (AR a) = arc_numbers a
numbers_of (AL a) = arc_numbers a
numbers_of (DW ms) = ms ∷ []
numbers_of (SP speed) = speed ∷ []
numbers_of SO = []
numbers_of PA = []
numbers_of EN = []

unfoldable pub number_bytes : List Len → List ℕ
number_bytes [] = []
number_bytes (n ∷ ns) = four_bytes n.v ++ number_bytes ns

unfoldable pub record_bytes : Record → List ℕ
record_bytes r = mark_of (kind_of r) ++ plane_bytes r ++ number_bytes (numbers_of r)

unfoldable pub list_bytes : List Record → List ℕ
list_bytes [] = []
list_bytes (r ∷ rs) = record_bytes r ++ list_bytes rs

-- the room that records take
unfoldable pub room_of : List Record → ℕ
room_of [] = 0
room_of (r ∷ rs) = kind_length (kind_of r) + room_of rs

-- the record of a kind from its plane, where it has one, and its numbers
abbrev pub number_at : List Len → ℕ → Len
number_at ns k = get_or ns k (len (pos 0))

abbrev pub point_of : List Len → Point
point_of ns = record { x = number_at ns 0; y = number_at ns 1; z = number_at ns 2 }

abbrev pub arc_of : Plane → List Len → Arc
arc_of plane ns =
    record { plane = plane; end = point_of ns; first = number_at ns 3; second = number_at ns 4; feed = number_at ns 5 }

unfoldable pub record_of : Kind → Plane → List Len → Record
record_of rp plane ns = RP (point_of ns)
record_of ln plane ns = LN (point_of ns) (number_at ns 3)
record_of ar plane ns = AR (arc_of plane ns)
record_of al plane ns = AL (arc_of plane ns)
record_of dw plane ns = DW (number_at ns 0)
record_of sp plane ns = SP (number_at ns 0)
record_of so plane ns = SO
record_of pa plane ns = PA
record_of en plane ns = EN
