-- Laws of writing bytes over a buffer as far as it goes. Assumes nothing.
use Rattle.terms.proofs.Common.{ℕ, suc, ◌+◌, ◌≤◌, ◌<◌, ◌≡◌, refl, sym, ap, ◌∙◌, List, [], ◌∷◌, ◌++◌, append_assoc, arith, Bool, true, false, leb-true, leb-false, leb, length, get_or, take, length-append, sets, length-sets, set_out, take-suc}
use Rattle.records.proofs.Written.{sets_append}
use Rattle.svg.specs.Text.{Fills}

-- bytes past the end of a buffer change nothing
sets_out : (l : List ℕ) (k : ℕ) (bs : List ℕ) → length l ≤ k → sets l k bs ≡ l
sets_out l k [] h = refl
sets_out l k (b ∷ bs) h = rw (set_out l k b h) (sets_out l (suc k) bs (omega arith))

-- bytes in two parts are written one part after the other, also where the room ends before the second
pub fills_then :
    {was mid is a b : List ℕ} {at k next : ℕ}
    → Fills was at a mid k → Fills mid k b is next → Fills was at (a ++ b) is next
fills_then {was} {mid} {is} {a} {b} {at} {k} {next} p q =
    let kept : length mid ≡ length was = ap length p.bytes ∙ length-sets was at a in
    let sum = length-append a b in
    record {
      bytes = q.bytes ∙ rw p.bytes (here (leb (at + length a) (length was)) refl) ∙ sym (sets_append was at a b);
      place = omega (arith, p.place, q.place, kept, sum);
    }
  where
    here : (t : Bool) → leb (at + length a) (length was) ≡ t → sets (sets was at a) k b ≡ sets (sets was at a) (at + length a) b
    here true e = ap (λ (n : ℕ). sets (sets was at a) n b) (omega (arith, p.place, leb-true))
    here false e =
        let size = length-sets was at a in
        sets_out (sets was at a) k b (omega (arith, p.place, leb-false, size))
        ∙ sym (sets_out (sets was at a) (at + length a) b (omega (arith, leb-false, size)))

-- the same where the first bytes are two parts, and the second goes with the rest
pub fills_next :
    (a b : List ℕ) {was mid is c : List ℕ} {at k next : ℕ}
    → Fills was at (a ++ b) mid k → Fills mid k c is next → Fills was at (a ++ (b ++ c)) is next
fills_next a b {c = c} p q = rw (append_assoc a b c) at (fills_then p q)

pub fills_none : (l : List ℕ) (at : ℕ) → Fills l at [] l at
fills_none l at = record { bytes = refl; place = omega arith }

-- one byte past the end
pub fills_out : (l : List ℕ) (at b : ℕ) → length l ≤ at → Fills l at (b ∷ []) l at
fills_out l at b h = record { bytes = sym (set_out l at b h); place = omega arith }

-- the first bytes of a text, and one more
pub fills_more :
    {was mid is : List ℕ} {at k next : ℕ} (text : List ℕ) (i : ℕ) → i < length text
    → Fills was at (take i text) mid k → Fills mid k (get_or text i 0 ∷ []) is next → Fills was at (take (i + 1) text) is next
fills_more text i h p q =
    let e : i + 1 ≡ suc i = omega arith in
    rw (e, take-suc text i 0 h) (fills_then p q)

pub fills_length : {was is bs : List ℕ} {at next : ℕ} → Fills was at bs is next → length is ≡ length was
fills_length {was} {is} {bs} {at} p = ap length p.bytes ∙ length-sets was at bs
