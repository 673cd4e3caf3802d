-- What is written is read back: the reader's laws over lists of records. Assumes nothing.
use Rattle.terms.proofs.Common.{ℕ, zero, suc, ◌+◌, ◌≤◌, ◌≡◌, refl, sym, ap, ◌∙◌, Some, List, [], ◌∷◌, ◌++◌, append_assoc, append-nil, add-zero, zero-add, suc-add, arith, eqb, length, get_or, drop, length-append, length-drop, get_or-drop, drop-drop, drop_at, drop-append_seam}
use Rattle.terms.specs.Terms.{first}
use Rattle.lengths.{specs.Units.len, specs.Units.four_bytes, specs.declared.Len.Len, proofs.Four.short_four, proofs.Four.four_of_bytes}
use Rattle.codes.specs.declared.Plane.{Plane, TheVariants.G17, TheVariants.G18, TheVariants.G19}
use Rattle.records.specs.{declared.Kind.Kind, declared.Record.Record, declared.Listed.TheVariants.Next, declared.Listed.TheVariants.End, Writing.AllShort, Writing.ListShort}
use Rattle.records.specs.declared.Kind.TheVariants.{RP as rp, LN as ln, AR as ar, AL as al, DW as dw, SP as sp, SO as so, PA as pa, EN as en}
use Rattle.records.specs.declared.Record.TheVariants.{RP, LN, AR, AL, DW, SP, SO, PA, EN}
use Rattle.records.specs.Layout.{kind_of, mark_of, has_plane, head_length, kind_length, numbers_in, plane_byte, plane_of, plane_bytes, numbers_of, number_bytes, record_bytes, list_bytes, room_of, record_of}
use Rattle.records.specs.Reading.{marked, kinds, kind_at, planes, plane_at, plane_for, len_at, numbers_at, read_at, trail, after, onward, read_all}
use Rattle.records.proofs.{Laid.mark_length, Laid.mark_room, Laid.head_length_lem, Laid.count, Laid.record_length, Laid.list_length, Laid.own, Found.first_same, Found.read_end, Found.read_next}

-- ---- a list from a place on

module _ (l : List ℕ) (at : ℕ) where
  here : get_or l at 0 ≡ get_or (drop at l) 0 0
  here = rw (get_or-drop at l 0 0, add-zero at)

  there : (i : ℕ) → get_or l (at + i) 0 ≡ get_or (drop at l) i 0
  there i = sym (get_or-drop at l i 0)

  past : (a b : List ℕ) {n : ℕ} → drop at l ≡ a ++ b → length a ≡ n → drop (at + n) l ≡ b
  past a b {n} e h = sym (drop-drop n at l) ∙ ap (drop n) e ∙ drop_at a b n h

-- ---- each part of a record

mark_first : (kind : Kind) (rest : List ℕ) → kind_at (mark_of kind ++ rest) 0 ≡ Some kind
unfolding kind_at marked first
mark_first rp rest = refl
mark_first ln rest = refl
mark_first ar rest = refl
mark_first al rest = refl
mark_first dw rest = refl
mark_first sp rest = refl
mark_first so rest = refl
mark_first pa rest = refl
mark_first en rest = refl

mark_back :
    (kind : Kind) (l : List ℕ) (at : ℕ) (rest : List ℕ) → drop at l ≡ mark_of kind ++ rest → kind_at l at ≡ Some kind
unfolding kind_at marked
mark_back kind l at rest e =
    first_same (marked l at) (marked (drop at l) 0) kinds (λ k. rw (here l at, there l at 1))
    ∙ ap (λ (m : List ℕ). kind_at m 0) e ∙ mark_first kind rest

plane_first : (plane : Plane) (rest : List ℕ) → plane_at (plane_byte plane ∷ rest) 0 ≡ Some plane
unfolding plane_at first
plane_first G17 rest = refl
plane_first G18 rest = refl
plane_first G19 rest = refl

plane_byte_lem :
    (plane : Plane) (l : List ℕ) (at : ℕ) (rest : List ℕ) → drop at l ≡ plane_byte plane ∷ rest → plane_at l at ≡ Some plane
unfolding plane_at
plane_byte_lem plane l at rest e =
    first_same
    (λ p. eqb (get_or l at 0) (plane_byte p))
    (λ p. eqb (get_or (drop at l) 0 0) (plane_byte p))
    planes
    (λ p. rw (here l at))
    ∙ ap (λ (m : List ℕ). plane_at m 0) e ∙ plane_first plane rest

plane_back :
    (r : Record) (l : List ℕ) (at : ℕ) (rest : List ℕ)
    → drop at l ≡ plane_bytes r ++ rest → plane_for (has_plane (kind_of r)) l at ≡ Some (plane_of r)
unfolding plane_bytes plane_of plane_for
plane_back (RP p) l at rest e = refl
plane_back (LN p feed) l at rest e = refl
plane_back (AR a) l at rest e = plane_byte_lem a.plane l at rest e
plane_back (AL a) l at rest e = plane_byte_lem a.plane l at rest e
plane_back (DW ms) l at rest e = refl
plane_back (SP speed) l at rest e = refl
plane_back SO l at rest e = refl
plane_back PA l at rest e = refl
plane_back EN l at rest e = refl

-- the one law for four bytes serves every number of every record
numbers_back :
    (ns : List Len) (l : List ℕ) (at : ℕ) (rest : List ℕ)
    → AllShort ns → drop at l ≡ number_bytes ns ++ rest → numbers_at (length ns) l at ≡ ns
unfolding numbers_at number_bytes
numbers_back [] l at rest h e = refl
numbers_back (n ∷ ns) l at rest h e =
    let a : len_at l at ≡ len_at (drop at l) 0 = rw (here l at, there l at 1, there l at 2, there l at 3) in
    let b : len_at l at ≡ n =
    a ∙ ap (λ (m : List ℕ). len_at m 0) e ∙ ap len (four_of_bytes n.v (short_four n.v h.0)) in
    let c : numbers_at (length ns) l (at + 4) ≡ ns =
    numbers_back ns l (at + 4) rest h.1 (past l at (four_bytes n.v) (number_bytes ns ++ rest) e refl) in
    rw (b, c)

-- ---- a record, and a list of records

pub record_back :
    (r : Record) (l : List ℕ) (at : ℕ) (rest : List ℕ)
    → AllShort (numbers_of r) → drop at l ≡ record_bytes r ++ rest → read_at l at ≡ Next r (at + kind_length (kind_of r))
unfolding record_bytes
record_back r l at rest h e =
    let body = plane_bytes r ++ (number_bytes (numbers_of r) ++ rest) in
    let m : drop at l ≡ mark_of (kind_of r) ++ body = e ∙ simp append_assoc in
    let p : drop (at + 2) l ≡ body = past l at (mark_of (kind_of r)) body m (mark_length (kind_of r)) in
    let j : at + 2 + length (plane_bytes r) ≡ at + head_length (kind_of r) = omega (arith, head_length_lem r) in
    let q : drop (at + head_length (kind_of r)) l ≡ number_bytes (numbers_of r) ++ rest =
    rw j at (past l (at + 2) (plane_bytes r) (number_bytes (numbers_of r) ++ rest) p refl) in
    let k : at + kind_length (kind_of r) ≤ length l =
    omega (arith, ap length e, length-drop at l, length-append (record_bytes r) rest, record_length r, mark_room (kind_of r)) in
    let ns : numbers_at (numbers_in (kind_of r)) l (at + head_length (kind_of r)) ≡ numbers_of r =
    rw (← count r) (numbers_back (numbers_of r) l (at + head_length (kind_of r)) rest h q) in
    read_next l at (omega (arith, mark_room (kind_of r))) (mark_back (kind_of r) l at body m) k
    (plane_back r l (at + 2) (number_bytes (numbers_of r) ++ rest) p)
    ∙ ap (λ (s : Record). Next s (at + kind_length (kind_of r))) (ap (record_of (kind_of r) (plane_of r)) ns ∙ own r)

list_back :
    (rs : List Record) (n : ℕ) (l : List ℕ) (at : ℕ) (rest : List ℕ)
    → ListShort rs → drop at l ≡ list_bytes rs ++ rest → read_all (length rs + n) l at ≡ after rs (read_all n l (at + room_of rs))
unfolding list_bytes room_of read_all onward
list_back [] n l at rest h e = rw (zero-add n, add-zero at)
list_back (r ∷ rs) n l at rest h e =
    let f : drop at l ≡ record_bytes r ++ (list_bytes rs ++ rest) = e ∙ append_assoc (record_bytes r) (list_bytes rs) rest in
    let k = at + kind_length (kind_of r) in
    let i : k + room_of rs ≡ at + (kind_length (kind_of r) + room_of rs) = omega arith in
    let t : read_all (length rs + n) l k ≡ after rs (read_all n l (at + (kind_length (kind_of r) + room_of rs))) =
    rw (← i) (list_back rs n l k rest h.1 (past l at (record_bytes r) (list_bytes rs ++ rest) f (record_length r))) in
    rw (suc-add (length rs) n, record_back r l at (list_bytes rs ++ rest) h.0 f, t)

-- ---- the round trip

-- records that stand somewhere in a list are read from there one after the other; then the reading goes on behind them
pub round_trip :
    (before rest : List ℕ) (rs : List Record) (n : ℕ) → ListShort rs
    → (let l = before ++ list_bytes rs ++ rest in
    read_all (length rs + n) l (length before) ≡ after rs (read_all n l (length before + room_of rs)))
round_trip before rest rs n h =
    list_back rs n (before ++ list_bytes rs ++ rest) (length before) rest h
    (ap (drop (length before)) (append_assoc before (list_bytes rs) rest) ∙ drop-append_seam before (list_bytes rs ++ rest))

stop : (n : ℕ) (l : List ℕ) (at : ℕ) → at ≡ length l → read_all n l at ≡ trail [] End
unfolding read_all onward
stop zero l at e = rw (read_end l at e)
stop (suc n) l at e = rw (read_end l at e)

-- a list of records alone: the records, and then its end
pub whole_list : (rs : List Record) (n : ℕ) → ListShort rs → read_all (length rs + n) (list_bytes rs) 0 ≡ trail rs End
whole_list rs n h = list_back rs n (list_bytes rs) 0 [] h (sym (append-nil (list_bytes rs)))
    ∙ rw (stop n (list_bytes rs) (0 + room_of rs) (omega (arith, list_length rs)), append-nil rs)
