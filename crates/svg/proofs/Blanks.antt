-- Texts with blanks, byte by byte. Assumes nothing.
use Rattle.terms.proofs.Common.{ℕ, ◌+◌, ◌≤◌, ◌<◌, ◌≡◌, ◌≢◌, List, [], ◌∷◌, add-one, eq-eqb, ne_eqb, length, get_or, drop, drop_of_length-le, drop-cons}
use Rattle.lengths.specs.declared.Flat.{Flat}
use Rattle.svg.specs.Text.{Fills, number, across, filled}
use Rattle.svg.proofs.Filled.{fills_then, fills_none}

module _ (form : List ℕ) (a b : Flat) (i : ℕ) where
  pub filled_end : (out : List ℕ) (next : ℕ) → length form ≤ i → Fills out next (filled (drop i form) a b) out next
  unfolding filled
  filled_end out next h = rw (drop_of_length-le form h) (fills_none out next)

  module _ {out mid is : List ℕ} {next k last : ℕ} (h : i < length form) where
    pub filled_plain :
        get_or form i 0 ≢ 95 → Fills out next (get_or form i 0 ∷ []) mid k
        → Fills mid k (filled (drop (i + 1) form) a b) is last → Fills out next (filled (drop i form) a b) is last
    unfolding filled
    filled_plain f p q = rw (drop-cons form i 0 h, ne_eqb (get_or form i 0) 95 f) (fills_then p (rw (add-one i) at q))

    pub filled_blank :
        get_or form i 0 ≡ 95 → Fills out next (number a.first.v) mid k
        → Fills mid k (filled (drop (i + 1) form) (across a b) (across b a)) is last → Fills out next (filled (drop i form) a b) is last
    unfolding filled
    filled_blank f p q = rw (drop-cons form i 0 h, eq-eqb (get_or form i 0) 95 f) (fills_then p (rw (add-one i) at q))
