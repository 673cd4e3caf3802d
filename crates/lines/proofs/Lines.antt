-- How blocks follow each other, byte by byte: what a walk over places needs.
use Rattle.std.specs.Prelude.{if◌then◌else◌}
use Rattle.std.specs.List.{list_any}
use Rattle.terms.proofs.Common.{ℕ, zero, suc, ◌+◌, ◌-◌, ◌≤◌, ◌<◌, ◌≡◌, refl, sym, ◌∙◌, ap, true, false, ◌&&◌, ◌||◌, List, [], ◌∷◌, arith, add-one, ℕ_discrete, eq-eqb, ne_eqb, eqb, length, take, drop, get_or, drop_of_length-le, drop-cons, drop-drop, length-drop}
use Rattle.terms.{proofs.Laws.either_left, proofs.Laws.either_right}
use Rattle.lines.specs.{Blocks.begins_with, Blocks.text_from, Blocks.no_text, Blocks.length_from, Blocks.block_from, Blocks.blocks_after, Blocks.is_percent, Serving.blocks_from}

-- ---- the bytes from a place on

-- from a place inside on, the byte there and the bytes after it
pub at_place : (l : List ℕ) (at : ℕ) → at < length l → drop at l ≡ get_or l at 0 ∷ drop (at + 1) l
at_place l at h = rw (add-one, drop-cons l at 0)

-- ---- lengths

length_lf : (b : ℕ) (bs : List ℕ) → b ≡ 10 → length_from (b ∷ bs) ≡ 1
unfolding length_from
length_lf b bs e = rw (eq-eqb b 10 e)

length_more : (b : ℕ) (bs : List ℕ) → (b ≡ 10 → ⊥) → length_from (b ∷ bs) ≡ suc (length_from bs)
unfolding length_from
length_more b bs e = rw (ne_eqb b 10 e)

pub length_at_lf : (l : List ℕ) (at : ℕ) → at < length l → get_or l at 0 ≡ 10 → length_from (drop at l) ≡ 1
length_at_lf l at h e = rw (at_place l at) (length_lf (get_or l at 0) (drop (at + 1) l) e)

pub length_at_more :
    (l : List ℕ) (at : ℕ) → at < length l → (get_or l at 0 ≡ 10 → ⊥) → length_from (drop at l) ≡ suc (length_from (drop (at + 1) l))
length_at_more l at h e = rw (at_place l at) (length_more (get_or l at 0) (drop (at + 1) l) e)

-- so many bytes have no LF among them
none_soon : (k : ℕ) (bs : List ℕ) → k ≤ length bs → list_any (λ b. eqb b 10) (take k bs) ≡ false → length_from bs ≡ k + length_from (drop k bs)
unfolding length_from
none_soon zero bs h e = omega arith
none_soon (suc k) [] h e = absurd (omega arith)
none_soon (suc k) (b ∷ bs) h e =
    let rest = none_soon k bs (omega arith) (either_right (eqb b 10) _ e) in
    rw (either_left (eqb b 10) _ e) (omega (arith, rest))

pub eight_passed :
    (l : List ℕ) (at n : ℕ) → list_any (λ b. eqb b 10) (take n (drop at l)) ≡ false → n ≡ 8 → at + 8 ≤ length l
    → length_from (drop at l) ≡ 8 + length_from (drop (at + 8) l)
eight_passed l at n e is h =
    rw (← drop-drop 8 at l) (none_soon 8 (drop at l) (omega (arith, length-drop at l)) (rw is at e))

pub length_at_end : (l : List ℕ) (at : ℕ) → length l ≤ at → length_from (drop at l) ≡ 0
unfolding length_from
length_at_end l at h = rw (drop_of_length-le l h)

pub length_bound : (bs : List ℕ) → length_from bs ≤ length bs
unfolding length_from
length_bound [] = omega arith
length_bound (b ∷ bs) =
    elim (eqb b 10) as (λ t. (if t then 1 else suc (length_from bs)) ≤ suc (length bs))
    [ true ↦ omega arith | false ↦ omega (arith, length_bound bs) ]

-- ---- blocks

blocks_pass : (k n at : ℕ) (bs : List ℕ) → blocks_after k n at bs ≡ blocks_after 0 n at (drop k bs)
unfolding blocks_after
blocks_pass zero n at bs = refl
blocks_pass (suc k) n at [] = refl
blocks_pass (suc k) n at (b ∷ bs) = blocks_pass k n at bs

length_pred : (b : ℕ) (bs : List ℕ) → suc (length_from (b ∷ bs) - 1) ≡ length_from (b ∷ bs)
unfolding length_from
length_pred b bs =
    elim (eqb b 10) as (λ t. suc ((if t then 1 else suc (length_from bs)) - 1) ≡ (if t then 1 else suc (length_from bs)))
    [ true ↦ omega arith | false ↦ omega arith ]

-- a block takes a byte at least
pub length_some : (l : List ℕ) (at : ℕ) → at < length l → 1 ≤ length_from (drop at l)
length_some l at h = rw (at_place l at) (omega (arith, length_pred (get_or l at 0) (drop (at + 1) l)))

blocks_cons :
    (n at b : ℕ) (bs : List ℕ)
    → blocks_after 0 n at (b ∷ bs)
    ≡ block_from n at (b ∷ bs) ∷ blocks_after 0 (n + 1) (at + length_from (b ∷ bs)) (drop (length_from (b ∷ bs)) (b ∷ bs))
unfolding blocks_after
blocks_cons n at b bs =
    ap (block_from n at (b ∷ bs) ∷◌)
    (blocks_pass (length_from (b ∷ bs) - 1) (n + 1) (at + length_from (b ∷ bs)) bs
    ∙ ap (λ (k : ℕ). blocks_after 0 (n + 1) (at + length_from (b ∷ bs)) (drop k (b ∷ bs))) (length_pred b bs))

-- the block that begins at a place of the data, and the blocks from the next place on
pub blocks_step :
    (l : List ℕ) (n at : ℕ) → at < length l
    → blocks_from l n at ≡ block_from n at (drop at l) ∷ blocks_from l (n + 1) (at + length_from (drop at l))
blocks_step l n at h =
    rw (← drop-drop (length_from (drop at l)) at l)
    (rw (at_place l at) (blocks_cons n at (get_or l at 0) (drop (at + 1) l)))

pub blocks_end : (l : List ℕ) (n at : ℕ) → length l ≤ at → blocks_from l n at ≡ []
unfolding blocks_after
blocks_end l n at h = rw (drop_of_length-le l h)

-- ---- what begins at a place

pub begins_end : (c : ℕ) (l : List ℕ) (at : ℕ) → length l ≤ at → begins_with c (drop at l) ≡ false
unfolding begins_with
begins_end c l at h = rw (drop_of_length-le l h)

pub begins_at : (c : ℕ) (l : List ℕ) (at : ℕ) → at < length l → begins_with c (drop at l) ≡ eqb (get_or l at 0) c
unfolding begins_with
begins_at c l at h = rw (at_place l at)

pub no_text_end : (l : List ℕ) (at : ℕ) → length l ≤ at → no_text (drop at l) ≡ true
unfolding no_text
no_text_end l at h = rw (drop_of_length-le l h)

pub no_text_lf : (l : List ℕ) (at : ℕ) → at < length l → get_or l at 0 ≡ 10 → no_text (drop at l) ≡ true
unfolding no_text
no_text_lf l at h e = rw (at_place l at) (rw (eq-eqb (get_or l at 0) 10 e))

pub no_text_other :
    (l : List ℕ) (at : ℕ) → at < length l → (get_or l at 0 ≡ 10 → ⊥) → (get_or l at 0 ≡ 13 → ⊥) → no_text (drop at l) ≡ false
unfolding no_text
no_text_other l at h e f = rw (at_place l at) (rw (ne_eqb (get_or l at 0) 10 e, ne_eqb (get_or l at 0) 13 f))

pub no_text_cr :
    (l : List ℕ) (at : ℕ) → at < length l → get_or l at 0 ≡ 13 → no_text (drop at l) ≡ begins_with 10 (drop (at + 1) l)
unfolding no_text
no_text_cr l at h e = rw (at_place l at) (rw e)

pub percent_end : (l : List ℕ) (at : ℕ) → length l ≤ at → is_percent (text_from (drop at l)) ≡ false
unfolding is_percent text_from
percent_end l at h = rw (drop_of_length-le l h)

-- a text of one byte or more is `%` alone only if that byte is
only_percent : (b : ℕ) (text : List ℕ) → (b ≡ 37 → ⊥) → is_percent (b ∷ text) ≡ false
unfolding is_percent
only_percent b [] e = ne_eqb b 37 e
only_percent b (c ∷ cs) e = refl

not_percent : (b : ℕ) (bs : List ℕ) → (b ≡ 37 → ⊥) → is_percent (text_from (b ∷ bs)) ≡ false
unfolding is_percent text_from
not_percent b bs e =
    elim (eqb b 10 || eqb b 13 && begins_with 10 bs) as (λ t. is_percent (if t then [] else b ∷ text_from bs) ≡ false)
    [ true ↦ refl | false ↦ only_percent b (text_from bs) e ]

percent_alone : (bs : List ℕ) → is_percent (37 ∷ text_from bs) ≡ no_text bs
unfolding is_percent text_from no_text
percent_alone [] = refl
percent_alone (b ∷ bs) =
    elim (eqb b 10 || eqb b 13 && begins_with 10 bs) as (λ t. is_percent (37 ∷ (if t then [] else b ∷ text_from bs)) ≡ t)
    [ true ↦ refl | false ↦ refl ]

pub percent_not : (l : List ℕ) (at : ℕ) → at < length l → (get_or l at 0 ≡ 37 → ⊥) → is_percent (text_from (drop at l)) ≡ false
percent_not l at h e = rw (at_place l at) (not_percent (get_or l at 0) (drop (at + 1) l) e)

pub percent_at : (l : List ℕ) (at : ℕ) → at < length l → get_or l at 0 ≡ 37 → is_percent (text_from (drop at l)) ≡ no_text (drop (at + 1) l)
unfolding text_from
percent_at l at h e = rw (at_place l at) (rw e (percent_alone (drop (at + 1) l)))

pub text_begins_end : (c : ℕ) (l : List ℕ) (at : ℕ) → length l ≤ at → begins_with c (text_from (drop at l)) ≡ false
unfolding begins_with text_from
text_begins_end c l at h = rw (drop_of_length-le l h)

-- a byte that is neither LF nor CR begins a text where it stands
text_begins : (c b : ℕ) (bs : List ℕ) → 13 < c → begins_with c (text_from (b ∷ bs)) ≡ eqb b c
unfolding begins_with text_from
text_begins c b bs h =
    elim (ℕ_discrete b c) [
      | yes p ↦
          let f : b ≡ 10 → ⊥ = λ e. omega arith in
          let g : b ≡ 13 → ⊥ = λ e. omega arith in
          rw (ne_eqb b 10 f, ne_eqb b 13 g)
      | no q ↦
          (elim (eqb b 10 || eqb b 13 && begins_with 10 bs) as (λ t. begins_with c (if t then [] else b ∷ text_from bs) ≡ eqb b c)
          [ true ↦ sym (ne_eqb b c q) | false ↦ refl ])
    ]

pub text_begins_at : (c : ℕ) (l : List ℕ) (at : ℕ) → at < length l → 13 < c → begins_with c (text_from (drop at l)) ≡ eqb (get_or l at 0) c
text_begins_at c l at h k = rw (at_place l at) (text_begins c (get_or l at 0) (drop (at + 1) l) k)
