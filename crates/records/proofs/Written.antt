-- Laws of writing bytes over a list from a place on. Assumes nothing.
use Rattle.terms.proofs.Common.{ℕ, suc, ◌+◌, ◌≡◌, refl, sym, ap, ◌∙◌, List, [], ◌∷◌, ◌++◌, append_assoc, arith, length, get_or, set, length-append, sets, length-sets}
use Rattle.records.specs.{declared.Kind.Kind, declared.Record.Record, Layout.kind_of, Layout.mark_of, Layout.plane_bytes, Layout.numbers_of, Layout.number_bytes, Layout.record_bytes, Serving.Wrote}

-- bytes in two parts are written one part after the other
pub sets_append : (l : List ℕ) (k : ℕ) (a b : List ℕ) → sets l k (a ++ b) ≡ sets (sets l k a) (k + length a) b
sets_append l k [] b = ap (λ (n : ℕ). sets l n b) (omega arith)
sets_append l k (x ∷ a) b =
    sets_append (set l k x) (suc k) a b ∙ ap (λ (n : ℕ). sets (sets (set l k x) (suc k) a) n b) (omega arith)

pub wrote_then :
    {was mid is a b : List ℕ} {at k next : ℕ}
    → Wrote was at a mid k → Wrote mid k b is next → Wrote was at (a ++ b) is next
wrote_then {was} {mid} {is} {a} {b} {at} {k} {next} p q =
    record {
      bytes = q.bytes ∙ rw (p.bytes, p.place) (sym (sets_append was at a b));
      place = omega (arith, p.place, q.place, length-append a b);
    }

-- what storing two or four bytes one by one writes
pub wrote_two :
    (l : List ℕ) (at : ℕ) (bs : List ℕ)
    → length bs ≡ 2 → Wrote l at bs (set (set l at (get_or bs 0 0)) (at + 1) (get_or bs 1 0)) (at + 2)
wrote_two l at [] e = absurd (omega arith)
wrote_two l at (a ∷ []) e = absurd (omega arith)
wrote_two l at (a ∷ b ∷ []) e =
    let f : at + 1 ≡ suc at = omega arith in
    record { bytes = rw f; place = refl }
wrote_two l at (a ∷ b ∷ x ∷ bs) e = absurd (omega arith)

pub wrote_four :
    (l : List ℕ) (at a b c d : ℕ)
    → Wrote l at (a ∷ b ∷ c ∷ d ∷ []) (set (set (set (set l at a) (at + 1) b) (at + 2) c) (at + 3) d) (at + 4)
wrote_four l at a b c d =
    let f : at + 1 ≡ suc at = omega arith in
    let g : at + 2 ≡ suc (suc at) = omega arith in
    let h : at + 3 ≡ suc (suc (suc at)) = omega arith in
    record { bytes = rw (f, g, h); place = refl }

-- one byte, and then more
pub wrote_cons :
    {was is bs : List ℕ} {at next : ℕ} (b : ℕ) → Wrote (set was at b) (at + 1) bs is next → Wrote was at (b ∷ bs) is next
wrote_cons {was} {is} {bs} {at} b p =
    let f : at + 1 ≡ suc at = omega arith in
    record { bytes = rw f at p.bytes; place = omega (arith, p.place) }

pub wrote_length : {was is bs : List ℕ} {at next : ℕ} → Wrote was at bs is next → length is ≡ length was
wrote_length {was} {is} {bs} {at} p = ap length p.bytes ∙ length-sets was at bs

pub wrote_none : (l : List ℕ) (at : ℕ) → Wrote l at [] l at
wrote_none l at = record { bytes = refl; place = omega arith }

-- a record is its mark and then the rest
pub wrote_record :
    {was mid is : List ℕ} {at k next : ℕ} {kind : Kind} (r : Record)
    → kind ≡ kind_of r
    → Wrote was at (mark_of kind) mid k
    → Wrote mid k (plane_bytes r ++ number_bytes (numbers_of r)) is next
    → Wrote was at (record_bytes r) is next
unfolding record_bytes
wrote_record r e p q =
    rw (append_assoc (mark_of (kind_of r)) (plane_bytes r) (number_bytes (numbers_of r))) (wrote_then (rw e at p) q)
