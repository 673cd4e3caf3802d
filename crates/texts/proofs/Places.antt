-- The gaps and the words of a setup file by their places. Assumes nothing.
use Rattle.std.specs.Prelude.{if◌then◌else◌}
use Rattle.terms.proofs.Common.{ℕ, suc, ◌+◌, ◌-◌, ◌≤◌, ◌<◌, ◌≡◌, refl, sym, ap, ◌∙◌, Bool, true, false, ◌&&◌, List, [], ◌∷◌, arith, add-one, dec_lt, eqb, length, take, drop, get_or, drop_of_length-le, length-drop, slice, slice-cons, slice_empty, length-slice, length-take-le, drop-cons, drop_at, take-add, eq-eqb, ne_eqb}
use lib.Pointwise.{pointwise}
use Rattle.lines.proofs.Lines.{at_place}
use Rattle.words.{specs.Numbers.run, proofs.Numbers.run_short}
use Rattle.texts.specs.{Texts.space_of, Texts.gap_by, Texts.gap, Texts.in_word, Texts.word_at, Texts.same_bytes, declared.Space.TheVariants.Gap, declared.Space.TheVariants.Word}

-- ---- the gap before a word

module _ (l : List ℕ) (inside : Bool) (i : ℕ) where
  pub gap_end : length l ≤ i → gap inside (drop i l) ≡ 0
  unfolding gap
  gap_end h = rw (drop_of_length-le l h)

  pub gap_more : (o : Bool) → i < length l → space_of inside (get_or l i 0) ≡ Gap o → gap inside (drop i l) ≡ suc (gap o (drop (i + 1) l))
  unfolding gap gap_by
  gap_more o h e = rw (at_place l i h) (rw e)

  pub gap_over : i < length l → space_of inside (get_or l i 0) ≡ Word → gap inside (drop i l) ≡ 0
  unfolding gap gap_by
  gap_over h e = rw (at_place l i h) (rw e)

-- ---- a word

module _ (l : List ℕ) (i : ℕ) where
  pub word_end : length l ≤ i → length (word_at l i) ≡ 0
  unfolding word_at run
  word_end h = rw (drop_of_length-le l h)

  pub word_more : i < length l → in_word (get_or l i 0) ≡ true → length (word_at l i) ≡ suc (length (word_at l (i + 1)))
  unfolding word_at run
  word_more h e = rw (at_place l i h) (rw e)

  pub word_over : i < length l → in_word (get_or l i 0) ≡ false → length (word_at l i) ≡ 0
  unfolding word_at run
  word_over h e = rw (at_place l i h) (rw e)

pub empty : (bs : List ℕ) → length bs ≡ 0 → bs ≡ []
empty [] f = refl
empty (b ∷ bs) f = absurd (omega arith)

pub run_take : (test : ℕ → Bool) (bs : List ℕ) → take (length (run test bs)) bs ≡ run test bs
unfolding run
run_take test [] = refl
run_take test (b ∷ bs) = go (test b) (run_take test bs)
  where
    go :
        (t : Bool) → take (length (run test bs)) bs ≡ run test bs
        → take (length (if t then b ∷ run test bs else [])) (b ∷ bs) ≡ (if t then b ∷ run test bs else [])
    go true e = ap (b ∷◌) e
    go false e = refl

slice_take : (p n : ℕ) (l : List ℕ) → p ≤ length l → slice p (p + n) l ≡ take n (drop p l)
slice_take p n l h = rw (take-add p n l) (drop_at (take p l) (take n (drop p l)) p (length-take-le p l h))

-- a word that stands from a place to another
pub record Standing (l : List ℕ) (p e : ℕ) : Type 0 where
  pub some : p < e
  pub within : e ≤ length l
  pub is : slice p e l ≡ word_at l p
  pub count : length (word_at l p) ≡ e - p

module _ (l : List ℕ) (p e : ℕ) (end : e ≡ p + length (word_at l p)) where
  inside_text : (p ≡ e → ⊥) → p < length l
  inside_text h =
      elim (dec_lt p (length l)) [
        | yes q ↦ q
        | no q ↦ absurd (h (omega (arith, end, word_end l p (omega (arith, q)))))
      ]

  pub standing : (p ≡ e → ⊥) → Standing l p e
  unfolding word_at
  standing h =
      let first = inside_text h in
      record {
        some = omega arith;
        within = omega (arith, run_short in_word (drop p l), length-drop p l);
        is = rw end (slice_take p (length (word_at l p)) l (omega arith) ∙ run_take in_word (drop p l));
        count = omega arith;
      }

  pub nothing_there : p ≡ e → word_at l p ≡ []
  nothing_there h = empty (word_at l p) (omega arith)

-- ---- the bytes of a name

-- what `==` of two slices answers
pub same_is : (a b : List ℕ) → pointwise eqb a b ≡ same_bytes a b
unfolding same_bytes
same_is [] [] = refl
same_is [] (b ∷ bs) = refl
same_is (a ∷ as') [] = refl
same_is (a ∷ as') (b ∷ bs) = ap (eqb a b &&◌) (same_is as' bs)

pub part_is : (s name : List ℕ) (from end : ℕ) → from ≤ end → end ≤ length s → pointwise eqb (take (end - from) (drop from s)) name ≡ same_bytes (slice from end s) name
part_is s name from end h k =
    let e : end ≡ from + (end - from) = omega arith in
    same_is (take (end - from) (drop from s)) name
    ∙ ap (λ (part : List ℕ). same_bytes part name) (sym (slice_take from (end - from) s (omega arith)) ∙ ap (λ (k : ℕ). slice from k s) (sym e))

-- words of different lengths differ
pub same_lengths : (a b : List ℕ) → (length a ≡ length b → ⊥) → same_bytes a b ≡ false
unfolding same_bytes
same_lengths [] [] h = absurd (h refl)
same_lengths [] (b ∷ bs) h = refl
same_lengths (a ∷ as') [] h = refl
same_lengths (a ∷ as') (b ∷ bs) h = go (eqb a b) (same_lengths as' bs (λ e. h (ap suc e)))
  where
    go : (t : Bool) → same_bytes as' bs ≡ false → (t && same_bytes as' bs) ≡ false
    go true e = e
    go false e = refl
