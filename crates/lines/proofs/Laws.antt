-- How blanks and comments are passed, byte by byte.
use Rattle.std.specs.Prelude.{if◌then◌else◌}
use Rattle.terms.proofs.Common.{ℕ, zero, suc, ◌+◌, ◌≤◌, ◌<◌, ◌≡◌, refl, sym, ◌∙◌, ap, Bool, true, false, false≢true, true≢false, ◌&&◌, ◌||◌, ◌⊎◌, inl, inr, Option, None, Some, List, [], ◌∷◌, arith, dec_lt, ne_eqb, eqb, length, drop, get_or, drop_of_length-le, length-drop, drop-drop}
use Rattle.terms.{proofs.Laws.both_right}
use Rattle.words.specs.{Numbers.number_in, declared.Numeral.Numeral, declared.Word.Word}
use Rattle.words.specs.Words.{is_blank, is_capital, one_more, closing, gap, unreadable, comment_item, word_item, item_at, Words, these, bad_at, with_word, item_then, words_after}
use Rattle.lines.specs.{Blocks.begins_with, Blocks.text_from, Blocks.no_text, Blocks.length_from, Gaps.no_words, Gaps.only_gaps, Closing.comment_by, Closing.comment_at}
use Rattle.lines.proofs.Lines.{at_place}

-- ---- the text from a place on

pub text_here : (b : ℕ) (bs : List ℕ) → no_text (b ∷ bs) ≡ false → text_from (b ∷ bs) ≡ b ∷ text_from bs
unfolding no_text text_from
text_here b bs e = rw e

pub text_none : (bs : List ℕ) → no_text bs ≡ true → text_from bs ≡ []
unfolding no_text text_from
text_none [] e = refl
text_none (b ∷ bs) e = rw e

-- so many bytes of a text passed, what is left is the text from there
pub text_drop : (k : ℕ) (bs : List ℕ) → k ≤ length (text_from bs) → drop k (text_from bs) ≡ text_from (drop k bs)
unfolding text_from
text_drop zero bs h = refl
text_drop (suc k) [] h = refl
text_drop (suc k) (b ∷ bs) h =
    let go : (t : Bool) → suc k ≤ length (if t then [] else b ∷ text_from bs)
    → drop (suc k) (if t then [] else b ∷ text_from bs) ≡ text_from (drop k bs) =
    elim [ true ↦ λ g. absurd (omega arith) | false ↦ λ g. text_drop k bs (omega arith) ] in
    go (eqb b 10 || eqb b 13 && begins_with 10 bs) h

-- .. and the next block begins at the same place, since a text has no LF
pub text_next : (k : ℕ) (bs : List ℕ) → k ≤ length (text_from bs) → length_from bs ≡ k + length_from (drop k bs)
unfolding text_from length_from
text_next zero bs h = omega arith
text_next (suc k) [] h = absurd (omega arith)
text_next (suc k) (b ∷ bs) h =
    let go : (lf cr : Bool) → suc k ≤ length (if lf || cr then [] else b ∷ text_from bs)
    → (if lf then 1 else suc (length_from bs)) ≡ suc k + length_from (drop k bs) =
    elim [
      | true ↦ λ cr g. absurd (omega arith)
      | false ↦ elim [ true ↦ λ g. absurd (omega arith) | false ↦ λ g. omega (arith, text_next k bs (omega arith)) ]
    ] in
    go (eqb b 10) (eqb b 13 && begins_with 10 bs) h

-- ---- comments

closing_paren : (bs : List ℕ) → closing (text_from (41 ∷ bs)) ≡ Some 1
unfolding closing text_from
closing_paren bs = refl

closing_lf : (bs : List ℕ) → closing (text_from (10 ∷ bs)) ≡ None
unfolding closing text_from
closing_lf bs = refl

-- a text whose bytes begin with LF has none
lf_no_text : (bs : List ℕ) → begins_with 10 bs ≡ true → text_from bs ≡ []
unfolding begins_with text_from
lf_no_text [] e = absurd (false≢true e)
lf_no_text (b ∷ bs) e = rw e

closing_more :
    (b : ℕ) (bs : List ℕ) → (b ≡ 41 → ⊥) → (b ≡ 10 → ⊥) → closing (text_from (b ∷ bs)) ≡ one_more (closing (text_from bs))
unfolding closing text_from one_more
closing_more b bs e f =
    rw (ne_eqb b 10 f)
    (go (eqb b 13 && begins_with 10 bs) (λ h. lf_no_text bs (both_right (eqb b 13) (begins_with 10 bs) h)))
  where
    go : (t : Bool) → (t ≡ true → text_from bs ≡ []) → closing (if t then [] else b ∷ text_from bs) ≡ one_more (closing (text_from bs))
    go true h = rw (h refl)
    go false h = rw (ne_eqb b 41 e)

pub closing_within : (bs : List ℕ) (k : ℕ) → closing bs ≡ Some k → k ≤ length bs
unfolding closing one_more
closing_within [] k e = let never : ◌≡◌ {A = ℕ} 0 1 = cc in omega arith
closing_within (b ∷ bs) k e = go (eqb b 41) (closing bs) (closing_within bs) e
  where
    go : (t : Bool) (o : Option ℕ) → ((j : ℕ) → o ≡ Some j → j ≤ length bs) → (if t then Some 1 else one_more o) ≡ Some k → k ≤ suc (length bs)
    go true o h g = let is : k ≡ 1 = cc in omega arith
    go false None h g = let never : ◌≡◌ {A = ℕ} 0 1 = cc in omega arith
    go false (Some j) h g = let is : k ≡ suc j = cc in omega (arith, h j refl)

-- by places
module _ (l : List ℕ) (i : ℕ) where
  pub comment_end_of : length l ≤ i → comment_at i (text_from (drop i l)) ≡ None
  unfolding comment_by closing text_from
  comment_end_of h = rw (drop_of_length-le l h)

  pub comment_paren : i < length l → get_or l i 0 ≡ 41 → comment_at i (text_from (drop i l)) ≡ Some (i + 1)
  unfolding comment_by
  comment_paren h e = rw (at_place l i) (rw e (rw (closing_paren (drop (i + 1) l))))

  pub comment_lf : i < length l → get_or l i 0 ≡ 10 → comment_at i (text_from (drop i l)) ≡ None
  unfolding comment_by
  comment_lf h e = rw (at_place l i) (rw e (rw (closing_lf (drop (i + 1) l))))

  comment_shift : (o : Option ℕ) → comment_by i (one_more o) ≡ comment_by (i + 1) o
  unfolding comment_by one_more
  comment_shift None = refl
  comment_shift (Some k) = ap Some (omega arith)

  pub comment_more :
      i < length l → (get_or l i 0 ≡ 41 → ⊥) → (get_or l i 0 ≡ 10 → ⊥)
      → comment_at i (text_from (drop i l)) ≡ comment_at (i + 1) (text_from (drop (i + 1) l))
  comment_more h e f =
      rw (at_place l i)
      (rw (closing_more (get_or l i 0) (drop (i + 1) l) e f) (comment_shift (closing (text_from (drop (i + 1) l)))))

-- ---- words passed

pub words_pass : (k at : ℕ) (bs : List ℕ) → words_after k at bs ≡ words_after 0 (at + k) (drop k bs)
unfolding words_after
words_pass zero at bs = ap (λ (n : ℕ). words_after 0 n bs) (omega arith)
words_pass (suc k) at [] = refl
words_pass (suc k) at (b ∷ bs) = words_pass k (at + 1) bs ∙ ap (λ (n : ℕ). words_after 0 n (drop k bs)) (omega arith)

word_then : (w : Word) (ws : Words) → no_words (with_word w ws) ≡ false
unfolding no_words with_word
word_then w (these ws) = refl
word_then w (bad_at at) = refl

-- what begins with a byte has no words if what follows it has none, wherever it stands
module _ (b : ℕ) (bs : List ℕ) (p q : ℕ) (f g : ℕ → Words) (same : (k : ℕ) → no_words (f k) ≡ no_words (g k)) where
  by_comment : (o : Option ℕ) → no_words (item_then p (comment_item o) f) ≡ no_words (item_then q (comment_item o) g)
  unfolding item_then comment_item no_words
  by_comment None = refl
  by_comment (Some k) = same k

  by_word_lem : (n : Option Numeral) → no_words (item_then p (word_item p b n) f) ≡ no_words (item_then q (word_item q b n) g)
  unfolding item_then word_item no_words
  by_word_lem (Some n) = word_then _ (f n.length) ∙ sym (word_then _ (g n.length))
  by_word_lem None = refl

  by_item :
      (blank paren capital : Bool)
      → no_words (item_then p (if blank then gap 0 else (if paren then comment_item (closing bs) else (if capital then word_item p b (number_in bs) else unreadable))) f)
      ≡ no_words (item_then q (if blank then gap 0 else (if paren then comment_item (closing bs) else (if capital then word_item q b (number_in bs) else unreadable))) g)
  unfolding item_then no_words
  by_item true paren capital = same 0
  by_item false true capital = by_comment (closing bs)
  by_item false false true = by_word_lem (number_in bs)
  by_item false false false = refl

-- that a text has no words does not hang on its place
no_words_place : (k p q : ℕ) (bs : List ℕ) → no_words (words_after k p bs) ≡ no_words (words_after k q bs)
unfolding words_after item_at
no_words_place k p q [] = refl
no_words_place (suc k) p q (b ∷ bs) = no_words_place k (p + 1) (q + 1) bs
no_words_place zero p q (b ∷ bs) =
    by_item b bs p q (λ k. words_after k (p + 1) bs) (λ k. words_after k (q + 1) bs) (λ k. no_words_place k (p + 1) (q + 1) bs)
    (is_blank b) (eqb b 40) (is_capital b)

-- ---- blanks

pub blank_is : (b : ℕ) → (b ≡ 9) ⊎ (b ≡ 32) → is_blank b ≡ true
blank_is b = elim [ inl e ↦ rw e | inr e ↦ rw e ]

pub blank_not : (b : ℕ) → ((b ≡ 9) ⊎ (b ≡ 32) → ⊥) → is_blank b ≡ false
blank_not b e = rw (ne_eqb b 32 (λ f. e (inr f)), ne_eqb b 9 (λ f. e (inl f)))

-- ---- what stands at the beginning of a text

gaps_blank : (b : ℕ) (text : List ℕ) → is_blank b ≡ true → only_gaps (b ∷ text) ≡ only_gaps text
unfolding only_gaps words_after item_at item_then
gaps_blank b text e = rw e (no_words_place 0 1 0 text)

gaps_open : (text : List ℕ) → closing text ≡ None → only_gaps (40 ∷ text) ≡ false
unfolding only_gaps words_after item_at item_then comment_item no_words
gaps_open text e = rw e

gaps_comment : (text : List ℕ) (k : ℕ) → closing text ≡ Some k → only_gaps (40 ∷ text) ≡ only_gaps (drop k text)
unfolding only_gaps words_after item_at item_then comment_item
gaps_comment text k e = rw e (ap no_words (words_pass k 1 text) ∙ no_words_place 0 (1 + k) 0 (drop k text))

gaps_other : (b : ℕ) (text : List ℕ) → is_blank b ≡ false → (b ≡ 40 → ⊥) → only_gaps (b ∷ text) ≡ false
unfolding only_gaps words_after item_at item_then word_item no_words
gaps_other b text e f = rw (e, ne_eqb b 40 f) (go (is_capital b) (number_in text))
  where
    go : (t : Bool) (n : Option Numeral) → no_words (item_then 0 (if t then word_item 0 b n else unreadable) (λ k. words_after k 1 text)) ≡ false
    go true (Some n) = word_then _ (words_after n.length 1 text)
    go true None = refl
    go false n = refl

-- a comment that is open has no closing parenthesis, and one that is closed has it so many bytes on
pub open_by : (at : ℕ) (o : Option ℕ) → comment_by at o ≡ None → o ≡ None
unfolding comment_by
open_by at None e = refl
open_by at (Some k) e = let never : ◌≡◌ {A = ℕ} 0 1 = cc in absurd (omega arith)

-- the way past a comment whose bytes begin at a place
pub record Way (l : List ℕ) (i next : ℕ) : Type 0 where
  pub count : ℕ
  pub closes : closing (text_from (drop i l)) ≡ Some count
  pub is : next ≡ i + count
  pub within : next ≤ length l
  pub text : drop count (text_from (drop i l)) ≡ text_from (drop next l)

pub text_length : (bs : List ℕ) → length (text_from bs) ≤ length bs
unfolding text_from
text_length [] = omega arith
text_length (b ∷ bs) =
    elim (eqb b 10 || eqb b 13 && begins_with 10 bs) as (λ t. length (if t then [] else b ∷ text_from bs) ≤ suc (length bs))
    [ true ↦ omega arith | false ↦ omega (arith, text_length bs) ]

pub comment_way : (l : List ℕ) (i next : ℕ) → i ≤ length l → comment_at i (text_from (drop i l)) ≡ Some next → Way l i next
unfolding comment_by
comment_way l i next h e = go (closing (text_from (drop i l))) refl e
  where
    go : (o : Option ℕ) → closing (text_from (drop i l)) ≡ o → comment_by i o ≡ Some next → Way l i next
    go None f g = let never : ◌≡◌ {A = ℕ} 0 1 = cc in absurd (omega arith)
    go (Some k) f g =
        let is : next ≡ i + k = cc in
        let short : k ≤ length (text_from (drop i l)) = closing_within (text_from (drop i l)) k f in
        record {
          count = k;
          closes = f;
          is = is;
          within = omega (arith, text_length (drop i l), length-drop i l);
          text = text_drop k (drop i l) short ∙ ap text_from (drop-drop k i l) ∙ ap (λ (n : ℕ). text_from (drop n l)) (sym is);
        }

-- by places
module _ (l : List ℕ) (i : ℕ) where
  pub gaps_end : no_text (drop i l) ≡ true → only_gaps (text_from (drop i l)) ≡ true
  unfolding only_gaps words_after no_words
  gaps_end e = rw (text_none (drop i l) e)

  -- a place where a text does not end is inside, and the text goes on with the byte there
  pub text_inside : no_text (drop i l) ≡ false → i < length l
  unfolding no_text
  text_inside e =
      elim (dec_lt i (length l)) [
        | yes p ↦ p
        | no f ↦
            let past : length l ≤ i = omega (arith, f) in
            absurd (true≢false (rw (drop_of_length-le l past) at e))
      ]

  pub text_at : no_text (drop i l) ≡ false → text_from (drop i l) ≡ get_or l i 0 ∷ text_from (drop (i + 1) l)
  text_at e =
      let h = text_inside e in
      rw (at_place l i h) (text_here (get_or l i 0) (drop (i + 1) l) (rw (at_place l i h) at e))

  pub gaps_at_blank : no_text (drop i l) ≡ false → is_blank (get_or l i 0) ≡ true → only_gaps (text_from (drop i l)) ≡ only_gaps (text_from (drop (i + 1) l))
  gaps_at_blank e f = rw (text_at e) (gaps_blank (get_or l i 0) (text_from (drop (i + 1) l)) f)

  pub gaps_at_other : no_text (drop i l) ≡ false → is_blank (get_or l i 0) ≡ false → (get_or l i 0 ≡ 40 → ⊥) → only_gaps (text_from (drop i l)) ≡ false
  gaps_at_other e f g = rw (text_at e) (gaps_other (get_or l i 0) (text_from (drop (i + 1) l)) f g)

  pub gaps_at_open :
      no_text (drop i l) ≡ false → get_or l i 0 ≡ 40 → comment_at (i + 1) (text_from (drop (i + 1) l)) ≡ None
      → only_gaps (text_from (drop i l)) ≡ false
  gaps_at_open e f g = rw (text_at e) (rw f (gaps_open (text_from (drop (i + 1) l)) (open_by (i + 1) (closing (text_from (drop (i + 1) l))) g)))

  -- past a comment the text goes on after its closing parenthesis
  pub gaps_at_comment :
      (next : ℕ) → no_text (drop i l) ≡ false → get_or l i 0 ≡ 40 → comment_at (i + 1) (text_from (drop (i + 1) l)) ≡ Some next
      → only_gaps (text_from (drop i l)) ≡ only_gaps (text_from (drop next l))
  gaps_at_comment next e f g =
      let inside = text_inside e in
      let w = comment_way l (i + 1) next (omega arith) g in
      rw (text_at e) (rw f (gaps_comment (text_from (drop (i + 1) l)) w.count w.closes ∙ ap only_gaps w.text))
