-- What stands inside comments changes neither the words of a text nor the blocks of the data.
use Rattle.std.specs.Prelude.{if◌then◌else◌}
use Rattle.terms.proofs.Common.{ℕ, zero, suc, ◌+◌, ◌-◌, ◌≡◌, refl, sym, ◌∙◌, ap, Bool, true, false, false≢true, not, ◌&&◌, ◌||◌, and-false, Option, None, Some, List, [], ◌∷◌, arith, ℕ_discrete, eqb-true, eqb-false, not-true, ne_eqb, eqb, length, drop, set, drop-drop}
use Rattle.terms.{specs.Terms.byte, proofs.Laws.either_left, proofs.Laws.either_right}
use Rattle.words.specs.declared.{Sign.Sign, Sign.TheVariants.Plain, Sign.TheVariants.Plus, Sign.TheVariants.Minus, Numeral.Numeral}
use Rattle.words.specs.Numbers.{is_figure, sign_of, sign_length, run, is_numeral, number_by, number_in}
use Rattle.words.specs.Words.{is_blank, is_capital, one_more, closing, gap, unreadable, comment_item, word_item, item_at, Words, with_word, item_then, words_after, words_of}
use Rattle.lines.specs.{Comments.open_after, Comments.inside_at, Gaps.no_words, Gaps.only_gaps}
use Rattle.lines.specs.Blocks.{begins_with, ends_at, text_from, no_text, length_from, blocks_after, blocks_of, is_percent}
use Rattle.lines.specs.Alike.{Alike, nothing, outside, begins, inside, finishes, breaks, AlikeBlocks}
use Rattle.lines.proofs.Laws.{text_here, text_none}
use Rattle.lines.specs.Alike as Alikes

pub length_alike : {m : Bool} {s t : List ℕ} → Alike m s t → length s ≡ length t
length_alike nothing = refl
length_alike (outside e r) = ap suc (length_alike r)
length_alike (begins r) = ap suc (length_alike r)
length_alike (inside e f g h r) = ap suc (length_alike r)
length_alike (finishes r) = ap suc (length_alike r)
length_alike (breaks e r) = ap suc (length_alike r)

-- ---- comments

-- the first closing parenthesis is as far away in both
closing_alike : {m : Bool} {s t : List ℕ} → Alike m s t → closing s ≡ closing t
unfolding closing
closing_alike nothing = refl
closing_alike (outside {b} e r) = ap (λ (o : Option ℕ). if eqb b 41 then Some 1 else one_more o) (closing_alike r)
closing_alike (begins r) = ap one_more (closing_alike r)
closing_alike (inside {a} {b} e f g h r) = rw (ne_eqb a 41 e, ne_eqb b 41 f) (ap one_more (closing_alike r))
closing_alike (finishes r) = refl
closing_alike (breaks {b} e r) = ap (λ (o : Option ℕ). if eqb b 41 then Some 1 else one_more o) (closing_alike r)

-- one byte more on the way to it
further :
    (a b : ℕ) (s t : List ℕ) (here : Bool) (o : Option ℕ) → (here ≡ true → Alike false s t)
    → ((k : ℕ) → o ≡ Some k → Alike false (drop k s) (drop k t))
    → (k : ℕ) → (if here then Some 1 else one_more o) ≡ Some k → Alike false (drop k (a ∷ s)) (drop k (b ∷ t))
unfolding one_more
further a b s t true o p q k e = let is : 1 ≡ k = cc in rw (← is) (p refl)
further a b s t false None p q k e = let never : ◌≡◌ {A = ℕ} 0 1 = cc in absurd (omega arith)
further a b s t false (Some j) p q k e = let is : suc j ≡ k = cc in rw (← is) (q j refl)

-- and no comment is open after it
past_closing : {m : Bool} {s t : List ℕ} → Alike m s t → (k : ℕ) → closing s ≡ Some k → Alike false (drop k s) (drop k t)
unfolding closing
past_closing nothing k e = let never : ◌≡◌ {A = ℕ} 0 1 = cc in absurd (omega arith)
past_closing (outside {b} {s} {t} h r) k e = further b b s t (eqb b 41) (closing s) (λ i. r) (past_closing r) k e
past_closing (begins {s} {t} r) k e = further 40 40 s t false (closing s) (λ i. absurd (false≢true i)) (past_closing r) k e
past_closing (inside {a} {b} {s} {t} e f g h r) k i =
    further a b s t (eqb a 41) (closing s) (λ j. absurd (false≢true (sym (ne_eqb a 41 e) ∙ j))) (past_closing r) k i
past_closing (finishes {s} {t} r) k e = further 41 41 s t true (closing s) (λ i. r) (past_closing r) k e
past_closing (breaks {b} {s} {t} h r) k e = further b b s t (eqb b 41) (closing s) (λ i. r) (past_closing r) k e

-- ---- numbers

-- a test that does not take `(` goes as far in both
pub run_alike : {s t : List ℕ} (test : ℕ → Bool) → test 40 ≡ false → Alike false s t → run test s ≡ run test t
unfolding run
run_alike test e nothing = refl
run_alike test e (outside {b} f r) = ap (λ (l : List ℕ). if test b then b ∷ l else []) (run_alike test e r)
run_alike test e (begins r) = rw e

pub past_run :
    {s t : List ℕ} (test : ℕ → Bool) → test 40 ≡ false → Alike false s t
    → Alike false (drop (length (run test s)) s) (drop (length (run test s)) t)
unfolding run
past_run test e nothing = nothing
past_run test e (outside {b} {s} {t} f r) = go (past_run test e r) (test b)
  where
    go :
        Alike false (drop (length (run test s)) s) (drop (length (run test s)) t) → (taken : Bool)
        → Alike false (drop (length (if taken then b ∷ run test s else [])) (b ∷ s)) (drop (length (if taken then b ∷ run test s else [])) (b ∷ t))
    go h true = h
    go h false = outside f r
past_run test e (begins r) = rw e (begins r)

sign_alike : {s t : List ℕ} → Alike false s t → sign_of s ≡ sign_of t
unfolding sign_of
sign_alike nothing = refl
sign_alike (outside e r) = refl
sign_alike (begins r) = refl

past_sign : {s t : List ℕ} → Alike false s t → Alike false (drop (sign_length (sign_of s)) s) (drop (sign_length (sign_of s)) t)
unfolding sign_of sign_length
past_sign nothing = nothing
past_sign (outside {b} {s} {t} e r) = go (eqb b 43) (eqb b 45)
  where
    go : (plus minus : Bool) → Alike false (drop (sign_length (if plus then Plus else (if minus then Minus else Plain))) (b ∷ s)) (drop (sign_length (if plus then Plus else (if minus then Minus else Plain))) (b ∷ t))
    go true minus = r
    go false true = r
    go false false = outside e r
past_sign (begins r) = begins r

number_alike : {s t : List ℕ} → Alike false s t → number_in s ≡ number_in t
unfolding number_in
number_alike {s} {t} r =
    rw (← sign_alike r) (ap (number_by (sign_of s)) (run_alike is_figure refl (past_sign r)))

-- so many bytes has a number
number_length : (sign : Sign) (figures : List ℕ) (n : Numeral) → number_by sign figures ≡ Some n → n.length ≡ sign_length sign + length figures
unfolding number_by
number_length sign figures n e = go (is_numeral figures) _ refl e
  where
    go :
        (t : Bool) (m : Numeral) → m.length ≡ sign_length sign + length figures → (if t then Some m else None) ≡ Some n
        → n.length ≡ sign_length sign + length figures
    go true m is f = cc
    go false m is f = let never : ◌≡◌ {A = ℕ} 0 1 = cc in absurd (omega arith)

past_number : {s t : List ℕ} → Alike false s t → (n : Numeral) → number_in s ≡ Some n → Alike false (drop n.length s) (drop n.length t)
unfolding number_in
past_number {s} {t} r n e =
    let figures : List ℕ = run is_figure (drop (sign_length (sign_of s)) s) in
    rw (number_length (sign_of s) figures n e)
    (rw (← drop-drop (length figures) (sign_length (sign_of s)) s, ← drop-drop (length figures) (sign_length (sign_of s)) t)
    (past_run is_figure refl (past_sign r)))

-- ---- words

-- What begins with a byte goes on alike if what follows it does, wherever no comment is open.
module _ {s t : List ℕ} (f g : ℕ → Words) (on : (k : ℕ) → Alike false (drop k s) (drop k t) → f k ≡ g k) (at : ℕ) where
  comment_then : (o : Option ℕ) → ((k : ℕ) → o ≡ Some k → Alike false (drop k s) (drop k t)) → item_then at (comment_item o) f ≡ item_then at (comment_item o) g
  unfolding item_then comment_item
  comment_then None h = refl
  comment_then (Some k) h = on k (h k refl)

  word_then :
      (b : ℕ) (n : Option Numeral) → ((m : Numeral) → n ≡ Some m → Alike false (drop m.length s) (drop m.length t))
      → item_then at (word_item at b n) f ≡ item_then at (word_item at b n) g
  unfolding item_then word_item
  word_then b (Some m) h = ap (with_word (record { letter = b; number = m.number; at = at })) (on m.length (h m refl))
  word_then b None h = refl

item_alike :
    {b c : ℕ} {s t : List ℕ} → Alike false (b ∷ s) (c ∷ t) → (f g : ℕ → Words) (on : (k : ℕ) → Alike false (drop k s) (drop k t) → f k ≡ g k) (at : ℕ)
    → item_then at (item_at at b s) f ≡ item_then at (item_at at c t) g
unfolding item_at item_then
item_alike (outside {b} {s} {t} e r) f g on at = rw (ne_eqb b 40 e, ← number_alike r) (go (is_blank b) (is_capital b))
  where
    go :
        (blank capital : Bool)
        → item_then at (if blank then gap 0 else (if capital then word_item at b (number_in s) else unreadable)) f
        ≡ item_then at (if blank then gap 0 else (if capital then word_item at b (number_in s) else unreadable)) g
    go true capital = on 0 r
    go false true = word_then f g on at b (number_in s) (past_number r)
    go false false = refl
item_alike (begins {s} {t} r) f g on at = rw (← closing_alike r) (comment_then f g on at (closing s) (past_closing r))

words_after_lem : (pass at : ℕ) (s t : List ℕ) → length s ≡ length t → Alike false (drop pass s) (drop pass t) → words_after pass at s ≡ words_after pass at t
unfolding words_after
words_after_lem pass at [] [] e r = refl
words_after_lem pass at [] (c ∷ t) e r = absurd (omega arith)
words_after_lem pass at (b ∷ s) [] e r = absurd (omega arith)
words_after_lem zero at (b ∷ s) (c ∷ t) e r =
    item_alike r (λ k. words_after k (at + 1) s) (λ k. words_after k (at + 1) t) (λ k. words_after_lem k (at + 1) s t (omega arith)) at
words_after_lem (suc pass) at (b ∷ s) (c ∷ t) e r = words_after_lem pass (at + 1) s t (omega arith) r

-- texts that differ only inside comments have the same words at the same places, or are unreadable at the same place
pub words_alike : {s t : List ℕ} → Alike false s t → (at : ℕ) → words_of at s ≡ words_of at t
words_alike {s} {t} r at = words_after_lem 0 at s t (length_alike r) r

pub gaps_alike : {s t : List ℕ} → Alike false s t → only_gaps s ≡ only_gaps t
unfolding only_gaps
gaps_alike r = ap no_words (words_alike r 0)

-- ---- texts

-- outside a comment both begin with the same byte
pub begins_alike : {s t : List ℕ} (first : ℕ) → Alike false s t → begins_with first s ≡ begins_with first t
unfolding begins_with
begins_alike first nothing = refl
begins_alike first (outside e r) = refl
begins_alike first (begins r) = refl

pub percent_alike : {s t : List ℕ} → Alike false s t → is_percent s ≡ is_percent t
unfolding is_percent
percent_alike nothing = refl
percent_alike (outside e nothing) = refl
percent_alike (outside e (outside f r)) = refl
percent_alike (outside e (begins r)) = refl
percent_alike (begins nothing) = refl
percent_alike (begins (inside e f g h r)) = refl
percent_alike (begins (finishes r)) = refl
percent_alike (begins (breaks e r)) = refl

-- a text does not begin with LF
no_lf : (s : List ℕ) → begins_with 10 (text_from s) ≡ false
unfolding begins_with text_from
no_lf [] = refl
no_lf (b ∷ s) = go (ends_at b s) refl
  where
    go : (t : Bool) → ends_at b s ≡ t → begins_with 10 (if t then [] else b ∷ text_from s) ≡ false
    go true e = refl
    go false e = either_left (eqb b 10) (eqb b 13 && begins_with 10 s) e

-- a byte at which no text ends stands in it, and ends none there
stays : (b : ℕ) (s : List ℕ) → no_text (b ∷ s) ≡ false → no_text (b ∷ text_from s) ≡ false
unfolding no_text
stays b s e = rw (either_left (eqb b 10) (eqb b 13 && begins_with 10 s) e, no_lf s) (and-false (eqb b 13))

-- and ends in both, where bytes outside comments follow
ends_alike : {s t : List ℕ} (b : ℕ) → Alike false s t → no_text (b ∷ t) ≡ no_text (b ∷ s)
unfolding no_text
ends_alike b r = rw (begins_alike 10 r)

-- the texts that bytes begin with which differ only inside comments
pub text_alike : {m : Bool} {s t : List ℕ} → Alike m s t → Alike m (text_from s) (text_from t)
unfolding text_from
text_alike nothing = nothing
text_alike (outside {b} {s} {t} e r) = rw (← begins_alike 10 r) (go (text_alike r) (ends_at b s))
  where
    go : Alike false (text_from s) (text_from t) → (end : Bool) → Alike false (if end then [] else b ∷ text_from s) (if end then [] else b ∷ text_from t)
    go h true = nothing
    go h false = outside e h
text_alike (begins r) = begins (text_alike r)
text_alike (inside {a} {b} {s} {t} e f g h r) =
    rw (text_here a s g, text_here b t h) (inside e f (stays a s g) (stays b t h) (text_alike r))
text_alike (finishes r) = finishes (text_alike r)
text_alike (breaks {b} {s} {t} e r) = rw (text_none (b ∷ s) e, text_none (b ∷ t) (ends_alike b r ∙ e)) nothing

-- ---- blocks

not_lf : (b : ℕ) (s : List ℕ) → no_text (b ∷ s) ≡ false → eqb b 10 ≡ false
unfolding no_text
not_lf b s e = either_left (eqb b 10) (eqb b 13 && begins_with 10 s) e

next_alike : {m : Bool} {s t : List ℕ} → Alike m s t → length_from s ≡ length_from t
unfolding length_from
next_alike nothing = refl
next_alike (outside {b} e r) = ap (λ (n : ℕ). if eqb b 10 then 1 else suc n) (next_alike r)
next_alike (begins r) = ap suc (next_alike r)
next_alike (inside {a} {b} {s} {t} e f g h r) = rw (not_lf a s g, not_lf b t h) (ap suc (next_alike r))
next_alike (finishes r) = ap suc (next_alike r)
next_alike (breaks {b} e r) = ap (λ (n : ℕ). if eqb b 10 then 1 else suc n) (next_alike r)

one_byte :
    (b : ℕ) (s t : List ℕ) (lf : Bool) → Alike false s t → Alike false (drop (length_from s) s) (drop (length_from s) t)
    → Alike false (drop (if lf then 1 else suc (length_from s)) (b ∷ s)) (drop (if lf then 1 else suc (length_from s)) (b ∷ t))
one_byte b s t true r h = r
one_byte b s t false r h = h

-- no comment is open where a block begins
past_block : {m : Bool} {s t : List ℕ} → Alike m s t → Alike false (drop (length_from s) s) (drop (length_from s) t)
unfolding length_from
past_block nothing = nothing
past_block (outside {b} {s} {t} e r) = one_byte b s t (eqb b 10) r (past_block r)
past_block (begins r) = past_block r
past_block (inside {a} {b} {s} {t} e f g h r) = rw (not_lf a s g) (past_block r)
past_block (finishes r) = past_block r
past_block (breaks {b} {s} {t} e r) = one_byte b s t (eqb b 10) r (past_block r)

-- the same after a block's first byte
after_first :
    (b c : ℕ) (s t : List ℕ) → Alike false (drop (length_from (b ∷ s)) (b ∷ s)) (drop (length_from (b ∷ s)) (c ∷ t))
    → Alike false (drop (length_from (b ∷ s) - 1) s) (drop (length_from (b ∷ s) - 1) t)
unfolding length_from
after_first b c s t = go (eqb b 10)
  where
    go :
        (lf : Bool) → Alike false (drop (if lf then 1 else suc (length_from s)) (b ∷ s)) (drop (if lf then 1 else suc (length_from s)) (c ∷ t))
        → Alike false (drop ((if lf then 1 else suc (length_from s)) - 1) s) (drop ((if lf then 1 else suc (length_from s)) - 1) t)
    go true h = h
    go false h = let is : suc (length_from s) - 1 ≡ length_from s = omega arith in rw is h

blocks_after_lem :
    (pass n at : ℕ) (s t : List ℕ) → length s ≡ length t → Alike false (drop pass s) (drop pass t)
    → AlikeBlocks (blocks_after pass n at s) (blocks_after pass n at t)
unfolding blocks_after
blocks_after_lem pass n at [] [] e r = Alikes.none
blocks_after_lem pass n at [] (c ∷ t) e r = absurd (omega arith)
blocks_after_lem pass n at (b ∷ s) [] e r = absurd (omega arith)
blocks_after_lem zero n at (b ∷ s) (c ∷ t) e r =
    rw (← next_alike r)
    (Alikes.more
    (record { number = refl; start = refl; text = text_alike r; next = refl })
    (blocks_after_lem (length_from (b ∷ s) - 1) (n + 1) (at + length_from (b ∷ s)) s t (omega arith) (after_first b c s t (past_block r))))
blocks_after_lem (suc pass) n at (b ∷ s) (c ∷ t) e r = blocks_after_lem pass n at s t (omega arith) r

-- Data that differs only inside comments has as many blocks, at the same places, and with texts that differ only inside
-- comments.
pub blocks_alike : {s t : List ℕ} → Alike false s t → AlikeBlocks (blocks_of s) (blocks_of t)
unfolding blocks_of
blocks_alike {s} {t} r = blocks_after_lem 0 1 0 s t (length_alike r) r

-- ---- "Bytes inside a comment, replaced by others that are neither `)`, LF nor CR"

-- no byte changed
alike_self : (open' : Bool) (s : List ℕ) → Alike open' s s
alike_self open' [] = nothing
alike_self false (b ∷ s) =
    elim (ℕ_discrete b 40) [ yes e ↦ rw e (begins (alike_self true s)) | no f ↦ outside f (alike_self false s) ]
alike_self true (b ∷ s) =
    elim (ℕ_discrete b 41) [
      | yes e ↦ rw e (finishes (alike_self false s))
      | no f ↦ go f (alike_self false s) (alike_self true s) (no_text (b ∷ s)) refl
    ]
  where
    go : (b ≡ 41 → ⊥) → Alike false s s → Alike true s s → (end : Bool) → no_text (b ∷ s) ≡ end → Alike true (b ∷ s) (b ∷ s)
    go f r q true e = breaks e r
    go f r q false e = inside f f e e q

-- LF stands in front of both or of neither
lf_alike : {m : Bool} {s t : List ℕ} → Alike m s t → begins_with 10 s ≡ begins_with 10 t
unfolding begins_with
lf_alike nothing = refl
lf_alike (outside e r) = refl
lf_alike (begins r) = refl
lf_alike (inside {a} {b} {s} {t} e f g h r) = not_lf a s g ∙ sym (not_lf b t h)
lf_alike (finishes r) = refl
lf_alike (breaks e r) = refl

-- a byte that ends no text ends none either where what follows differs inside the comment
still : (b : ℕ) {s t : List ℕ} → Alike true s t → no_text (b ∷ s) ≡ false → no_text (b ∷ t) ≡ false
unfolding no_text
still b r e = rw (← lf_alike r) e

-- the same byte in front of both
pub later_outside : (b : ℕ) {s t : List ℕ} → Alike (eqb b 40) s t → Alike false (b ∷ s) (b ∷ t)
later_outside b {s} {t} = go (eqb b 40) refl
  where
    go : (is : Bool) → eqb b 40 ≡ is → Alike is s t → Alike false (b ∷ s) (b ∷ t)
    go true e r = rw (eqb-true b 40 e) (begins r)
    go false e r = outside (eqb-false b 40 e) r

pub later_inside : (b : ℕ) {s t : List ℕ} → Alike (open_after true b s) s t → Alike true (b ∷ s) (b ∷ t)
later_inside b {s} {t} = go (eqb b 41) (no_text (b ∷ s)) refl refl
  where
    go : (is end : Bool) → eqb b 41 ≡ is → no_text (b ∷ s) ≡ end → Alike (not (is || end)) s t → Alike true (b ∷ s) (b ∷ t)
    go true end e f r = rw (eqb-true b 41 e) (finishes r)
    go false true e f r = breaks f r
    go false false e f r = inside (eqb-false b 41 e) (eqb-false b 41 e) f (still b r f) r

module _ (c : ℕ) (paren : c ≡ byte ")" → ⊥) (lf : c ≡ byte "\n" → ⊥) (cr : c ≡ byte "\r" → ⊥) where
  ends_none : (s : List ℕ) → no_text (c ∷ s) ≡ false
  unfolding no_text
  ends_none s = rw (ne_eqb c 10 lf, ne_eqb c 13 cr)

  here : (b : ℕ) (s : List ℕ) → open_after true b s ≡ true → Alike true (b ∷ s) (c ∷ s)
  here b s e =
      let f : (eqb b 41 || no_text (b ∷ s)) ≡ false = not-true (eqb b 41 || no_text (b ∷ s)) e in
      inside (eqb-false b 41 (either_left (eqb b 41) (no_text (b ∷ s)) f)) paren (either_right (eqb b 41) (no_text (b ∷ s)) f) (ends_none s)
      (alike_self true s)

  replace : (open' : Bool) (s : List ℕ) (i : ℕ) → inside_at open' s i ≡ true → Alike open' s (set s i c)
  unfolding inside_at
  replace open' [] i e = absurd (false≢true e)
  replace false (b ∷ s) zero e = absurd (false≢true e)
  replace true (b ∷ s) zero e = here b s e
  replace false (b ∷ s) (suc i) e = later_outside b (replace (eqb b 40) s i e)
  replace true (b ∷ s) (suc i) e = later_inside b (replace (open_after true b s) s i e)

  -- a byte inside a comment, replaced by one that is neither `)`, LF nor CR: what differs is inside a comment
  pub replaced : (s : List ℕ) (i : ℕ) → inside_at false s i ≡ true → Alike false s (set s i c)
  replaced s i e = replace false s i e
