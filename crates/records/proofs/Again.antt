-- What is read, written again, gives the same bytes. Assumes nothing.
use Rattle.std.specs.Prelude.{if◌then◌else◌}
use Rattle.terms.proofs.Common.{ℕ, zero, suc, ◌+◌, ◌-◌, ◌*◌, ◌≤◌, ◌<◌, ◌≡◌, refl, sym, ◌∙◌, Bool, true, false, ◌&&◌, Option, None, Some, List, [], ◌∷◌, ◌++◌, append_assoc, arith, eqb-true, ltb-false, eqb, ltb, length, get_or, take, drop, drop-cons, drop-drop, take-add}
use Rattle.terms.specs.Terms.{first}
use Rattle.lengths.{specs.Units.four_bytes, specs.View.Short, proofs.Four.four_read, proofs.Four.bytes_of_four}
use Rattle.codes.specs.declared.Plane.{Plane}
use Rattle.records.specs.{declared.Kind.Kind, declared.Record.Record, declared.Listed.Listed, declared.Listed.TheVariants.Next, Writing.AllShort}
use Rattle.records.specs.declared.Kind.TheVariants.{RP, LN, AR, AL, DW, SP, SO, PA, EN}
use Rattle.records.specs.Layout.{kind_of, mark_of, has_plane, head_length, kind_length, numbers_in, plane_byte, plane_of, plane_bytes, numbers_of, number_bytes, record_bytes, record_of}
use Rattle.records.specs.Reading.{marked, kinds, kind_at, planes, plane_at, plane_for, len_at, numbers_at, plane_read, kind_read, read_at}
use Rattle.records.proofs.Laid.{mark_length, mark_room}

-- ---- what a test that was passed says

module _ {A : Type 0} (f : A → Bool) where
  passed : (as' : List A) {a : A} → first f as' ≡ Some a → f a ≡ true
  unfolding first
  passed [] e = let z : ◌≡◌ {A = ℕ} 0 1 = cc in absurd (omega arith)
  passed (b ∷ bs) {a} e = by (f b) refl e (λ g. passed bs g)
    where
      by :
          (t : Bool) → f b ≡ t → (if t then Some b else first f bs) ≡ Some a → (first f bs ≡ Some a → f a ≡ true) → f a ≡ true
      by true h g next = cc
      by false h g next = next g

both_true : (t u : Bool) → (t && u) ≡ true → (t ≡ true) × (u ≡ true)
both_true true u e = (refl, e)
both_true false u e = let z : ◌≡◌ {A = ℕ} 0 1 = cc in absurd (omega arith)

-- ---- a list from a place on, byte by byte

part_cons :
    (l : List ℕ) (at n : ℕ) → at < length l → take (suc n) (drop at l) ≡ get_or l at 0 ∷ take n (drop (at + 1) l)
part_cons l at n h =
    let e : at + 1 ≡ suc at = omega arith in
    rw (e, drop-cons l at 0 h)

part_add : (l : List ℕ) (at m n : ℕ) → take (m + n) (drop at l) ≡ take m (drop at l) ++ take n (drop (at + m) l)
part_add l at m n = take-add m n (drop at l) ∙ rw (drop-drop m at l)

module _ (l : List ℕ) (at : ℕ) where
  two : at + 2 ≤ length l → take 2 (drop at l) ≡ get_or l at 0 ∷ get_or l (at + 1) 0 ∷ []
  two h =
      part_cons l at 1 (omega arith) ∙ rw (part_cons l (at + 1) 0 (omega arith))

  four :
      at + 4 ≤ length l → take 4 (drop at l) ≡ get_or l at 0 ∷ get_or l (at + 1) 0 ∷ get_or l (at + 2) 0 ∷ get_or l (at + 3) 0 ∷ []
  four k =
      let e : at + 1 + 1 ≡ at + 2 = omega arith in
      let f : at + 2 + 1 ≡ at + 3 = omega arith in
      let g = part_cons l (at + 1) 2 (omega arith) in
      let h = part_cons l (at + 2) 1 (omega arith) in
      let i = part_cons l (at + 3) 0 (omega arith) in
      part_cons l at 3 (omega arith) ∙ rw (g, e, h, f, i)

-- ---- each part of a record

pair_eq : (m : List ℕ) {a b : ℕ} → length m ≡ 2 → a ≡ get_or m 0 0 → b ≡ get_or m 1 0 → m ≡ a ∷ b ∷ []
pair_eq [] h e f = absurd (omega arith)
pair_eq (x ∷ []) h e f = absurd (omega arith)
pair_eq (x ∷ y ∷ []) h e f = cc
pair_eq (x ∷ y ∷ z ∷ m) h e f = absurd (omega arith)

mark_again : (l : List ℕ) (at : ℕ) {kind : Kind} → at + 2 ≤ length l → kind_at l at ≡ Some kind → mark_of kind ≡ take 2 (drop at l)
unfolding kind_at marked
mark_again l at {kind} h e =
    let t = both_true _ _ (passed (marked l at) kinds e) in
    let a = eqb-true (get_or l at 0) (get_or (mark_of kind) 0 0) t.0 in
    let b = eqb-true (get_or l (at + 1) 0) (get_or (mark_of kind) 1 0) t.1 in
    pair_eq (mark_of kind) (mark_length kind) a b
    ∙ sym (two l at h)

-- the bytes between the mark and the numbers
abbrev plane_count : Bool → ℕ
plane_count t = if t then 1 else 0

abbrev plane_written : Bool → Plane → List ℕ
plane_written t plane = if t then plane_byte plane ∷ [] else []

plane_again :
    (t : Bool) (l : List ℕ) (at : ℕ) {plane : Plane} → at + plane_count t ≤ length l → plane_for t l at ≡ Some plane
    → plane_written t plane ≡ take (plane_count t) (drop at l)
unfolding plane_for plane_at
plane_again true l at {plane} h e =
    let f : get_or l at 0 ≡ plane_byte plane =
    eqb-true (get_or l at 0) (plane_byte plane) (passed (λ p. eqb (get_or l at 0) (plane_byte p)) planes e) in
    rw (← f) (sym (part_cons l at 0 (omega arith)))
plane_again false l at h e = refl

module _ (l : List ℕ) (below : (k : ℕ) → get_or l k 0 < 256) where
  number_again :
      (at : ℕ)
      → (four_bytes (len_at l at).v ≡ get_or l at 0 ∷ get_or l (at + 1) 0 ∷ get_or l (at + 2) 0 ∷ get_or l (at + 3) 0 ∷ [])
      × Short (len_at l at).v
  number_again at =
      let a = get_or l at 0 in
      let b = get_or l (at + 1) 0 in
      let c = get_or l (at + 2) 0 in
      let d = get_or l (at + 3) 0 in (
        bytes_of_four a b c d (below at) (below (at + 1)) (below (at + 2)) (below (at + 3)),
        (four_read a b c d (below at) (below (at + 1)) (below (at + 2)) (below (at + 3))).short,
      )

  numbers_again : (n at : ℕ) → at + 4 * n ≤ length l → number_bytes (numbers_at n l at) ≡ take (4 * n) (drop at l)
  unfolding numbers_at number_bytes
  numbers_again zero at h = refl
  numbers_again (suc n) at h =
      let e : 4 * suc n ≡ 4 + 4 * n = omega arith in
      let f : four_bytes (len_at l at).v ≡ take 4 (drop at l) = (number_again at).0 ∙ sym (four l at (omega arith)) in
      rw (e, part_add l at 4 (4 * n), ← f, ← numbers_again n (at + 4) (omega arith))

  numbers_short : (n at : ℕ) → AllShort (numbers_at n l at)
  unfolding numbers_at
  numbers_short zero at = tt
  numbers_short (suc n) at = ((number_again at).1, numbers_short n (at + 4))

-- the record of a kind is of that kind, with that plane and those numbers
made :
    (kind : Kind) (plane : Plane) (l : List ℕ) (at : ℕ)
    → (let r = record_of kind plane (numbers_at (numbers_in kind) l at) in
    (kind_of r ≡ kind) × ((plane_bytes r ≡ plane_written (has_plane kind) plane) × (numbers_of r ≡ numbers_at (numbers_in kind) l at)))
unfolding record_of numbers_at numbers_of plane_bytes plane_of
made RP plane l at = (refl, (refl, refl))
made LN plane l at = (refl, (refl, refl))
made AR plane l at = (refl, (refl, refl))
made AL plane l at = (refl, (refl, refl))
made DW plane l at = (refl, (refl, refl))
made SP plane l at = (refl, (refl, refl))
made SO plane l at = (refl, (refl, refl))
made PA plane l at = (refl, (refl, refl))
made EN plane l at = (refl, (refl, refl))

-- the mark, the plane byte and the numbers are the whole record
head : (t : Bool) → (if t then 3 else 2) ≡ 2 + plane_count t
head true = refl
head false = refl

parts :
    (l : List ℕ) (at : ℕ) (t : Bool) (n : ℕ) {next : ℕ} → next ≡ at + ((if t then 3 else 2) + 4 * n)
    → take (next - at) (drop at l)
    ≡ take 2 (drop at l) ++ take (plane_count t) (drop (at + 2) l) ++ take (4 * n) (drop (at + (if t then 3 else 2)) l)
parts l at t n {next} e =
    let h = head t in
    let f : next - at ≡ 2 + (plane_count t + 4 * n) = omega arith in
    let g : at + (if t then 3 else 2) ≡ at + 2 + plane_count t = omega arith in
    rw (f, g, append_assoc, ← part_add l (at + 2) (plane_count t) (4 * n)) (part_add l at 2 (plane_count t + 4 * n))

-- ---- where the reader says `Next`

record Came (l : List ℕ) (at : ℕ) (r : Record) (next : ℕ) : Type 0 where
  kind : Kind
  plane : Plane
  mark : kind_at l at ≡ Some kind
  byte : plane_for (has_plane kind) l (at + 2) ≡ Some plane
  room : at + kind_length kind ≤ length l
  is : r ≡ record_of kind plane (numbers_at (numbers_in kind) l (at + head_length kind))
  place : next ≡ at + kind_length kind

left : (t : Bool) {x y z : Listed} → (if t then x else y) ≡ z → (x ≡ z → ⊥) → (t ≡ false) × (y ≡ z)
left true e n = absurd (n e)
left false e n = (refl, e)

module _ (l : List ℕ) (at : ℕ) (r : Record) (next : ℕ) where
  by_plane :
      (kind : Kind) → kind_at l at ≡ Some kind → at + kind_length kind ≤ length l
      → (o : Option Plane) → plane_for (has_plane kind) l (at + 2) ≡ o → plane_read l at kind o ≡ Next r next → Came l at r next
  unfolding plane_read
  by_plane kind m k None p e = let z : ◌≡◌ {A = ℕ} 0 1 = cc in absurd (omega arith)
  by_plane kind m k (Some plane) p e =
      record { kind = kind; plane = plane; mark = m; byte = p; room = k; is = cc; place = cc }

  by_kind : (o : Option Kind) → kind_at l at ≡ o → kind_read l at o ≡ Next r next → Came l at r next
  unfolding kind_read
  by_kind None m e = let z : ◌≡◌ {A = ℕ} 0 1 = cc in absurd (omega arith)
  by_kind (Some kind) m e =
      let a = left (ltb (length l) (at + kind_length kind)) e (λ h. let z : ◌≡◌ {A = ℕ} 0 1 = cc in omega arith) in
      by_plane kind m (ltb-false (length l) (at + kind_length kind) a.0) (plane_for (has_plane kind) l (at + 2)) refl a.1

  came : read_at l at ≡ Next r next → Came l at r next
  unfolding read_at
  came e =
      let a = left (eqb at (length l)) e (λ h. let z : ◌≡◌ {A = ℕ} 0 1 = cc in omega arith) in
      let b = left (ltb (length l) (at + 2)) a.1 (λ h. let z : ◌≡◌ {A = ℕ} 0 1 = cc in omega arith) in
      by_kind (kind_at l at) refl b.1

-- a reading that goes on comes to the end: each record takes room in the list
pub read_on : (l : List ℕ) (at : ℕ) (r : Record) (next : ℕ) → read_at l at ≡ Next r next → (at + 2 ≤ next) × (next ≤ length l)
read_on l at r next e =
    let c = came l at r next e in
    omega (arith, c.room, c.place, mark_room c.kind)

-- what the record that was read is: its bytes are those that stand there, and its numbers can be written
pub record Again (l : List ℕ) (at : ℕ) (r : Record) (next : ℕ) : Type 0 where
  pub bytes : record_bytes r ≡ take (next - at) (drop at l)
  pub place : next ≡ at + kind_length (kind_of r)
  pub short : AllShort (numbers_of r)

module _ (l : List ℕ) (below : (k : ℕ) → get_or l k 0 < 256) (at : ℕ) where
  laid :
      {r : Record} {next : ℕ} (c : Came l at r next)
      → mark_of c.kind ++ plane_written (has_plane c.kind) c.plane
      ++ number_bytes (numbers_at (numbers_in c.kind) l (at + head_length c.kind))
      ≡ take (next - at) (drop at l)
  laid {r} {next} c =
      let t = has_plane c.kind in
      let n = numbers_in c.kind in
      let h = head t in
      let a = mark_again l at (omega (arith, c.room)) c.mark in
      let b = plane_again t l (at + 2) (omega (arith, c.room)) c.byte in
      let d = numbers_again l below n (at + head_length c.kind) (omega (arith, c.room)) in
      rw (a, b, d) (sym (parts l at t n c.place))

  -- reading any list of bytes and writing the record again gives the same bytes
  pub again : (r : Record) (next : ℕ) → read_at l at ≡ Next r next → Again l at r next
  unfolding record_bytes
  again r next e =
      let c = came l at r next e in
      let m = made c.kind c.plane l (at + head_length c.kind) in
      rw c.is
      (record {
        bytes = rw (m.0, m.1.0, m.1.1) (laid c);
        place = rw m.0 c.place;
        short = rw m.1.1 (numbers_short l below (numbers_in c.kind) (at + head_length c.kind));
      })
