-- Items and words by their places.
use Rattle.std.specs.Prelude.{if◌then◌else◌, Ok, Err}
use Rattle.std.proofs.lemmas.List.{take_rest}
use Rattle.terms.proofs.Common.{ℕ, suc, ◌+◌, ◌-◌, ◌≤◌, ◌<◌, ◌≡◌, refl, sym, ◌∙◌, ap, Bool, true, false, ◌||◌, Option, None, Some, List, [], ◌∷◌, arith, ℕ_discrete, ne_eqb, le-leb, lt-leb, eqb, length, take, drop, get_or, length-drop, drop-drop}
use Rattle.lines.specs.{Blocks.begins_with, Blocks.text_from, Blocks.no_text, Blocks.length_from, Blocks.ends_at, Closing.comment_at}
use Rattle.lines.proofs.Laws.{text_drop, text_none, text_inside, text_at, text_length, text_next, words_pass, open_by, comment_way, closing_within}
use Rattle.refusals.specs.declared.Refusal.{Refusal}
use Rattle.words.specs.{Serving.Written, declared.Numeral.Numeral}
use Rattle.words.{specs.declared.Sign.TheVariants.Plain, specs.declared.Word.Word, proofs.Numbers.number_short, proofs.Numbers.number_in_written}
use Rattle.words.specs.Numbers.{is_digit, is_point, sign_of, sign_length, run, number_by, number_in}
use Rattle.words.specs.Words.{is_blank, is_capital, closing, gap, word, unreadable, comment_item, word_item, item_at, these, bad_at, with_word, item_then, words_after}
use Rattle.reading.specs.{Items.placed, Items.words_at, Items.status_after}
use Rattle.refusals.specs.declared.Refusal.TheVariants as refusals
use Rattle.words.specs.Words as Words
use Rattle.reading.specs.declared.Item.TheVariants as item

-- ---- a number in a text is the number in the data: neither LF nor CR is one of its bytes

-- a test that takes neither LF nor CR finds in a text what it finds in the data
run_text : (test : ℕ → Bool) → test 10 ≡ false → test 13 ≡ false → (bs : List ℕ) → run test (text_from bs) ≡ run test bs
unfolding run text_from
run_text test lf cr [] = refl
run_text test lf cr (b ∷ bs) =
    elim (ℕ_discrete b 10) [
      | yes e ↦ rw e (rw lf)
      | no f ↦
          (elim (ℕ_discrete b 13) [
            | yes e ↦ rw e (rw cr (go_cr (begins_with 10 bs)))
            | no g ↦ rw (ne_eqb b 10 f, ne_eqb b 13 g) (go (run_text test lf cr bs) (test b))
          ])
    ]
  where
    go_cr : (t : Bool) → run test (if t then [] else 13 ∷ text_from bs) ≡ []
    go_cr true = refl
    go_cr false = rw cr

    go : run test (text_from bs) ≡ run test bs → (t : Bool) → (if t then b ∷ run test (text_from bs) else []) ≡ (if t then b ∷ run test bs else [])
    go e true = ap (b ∷◌) e
    go e false = refl

-- a sign is a byte of the text
sign_text : (bs : List ℕ) → (sign_of (text_from bs) ≡ sign_of bs) × (sign_length (sign_of bs) ≤ length (text_from bs))
unfolding sign_of sign_length text_from
sign_text [] = (refl, omega arith)
sign_text (b ∷ bs) =
    elim (ℕ_discrete b 43) [
      | yes e ↦ rw e (refl, omega arith)
      | no f ↦
          (elim (ℕ_discrete b 45) [
            | yes e ↦ rw e (refl, omega arith)
            | no g ↦ rw (ne_eqb b 43 f, ne_eqb b 45 g) (go f g (ends_at b bs), omega arith)
          ])
    ]
  where
    go : (b ≡ 43 → ⊥) → (b ≡ 45 → ⊥) → (t : Bool) → sign_of (if t then [] else b ∷ text_from bs) ≡ Plain
    go f g true = refl
    go f g false = rw (ne_eqb b 43 f, ne_eqb b 45 g)

number_text : (bs : List ℕ) → number_in (text_from bs) ≡ number_in bs
unfolding number_in
number_text bs =
    let e = (sign_text bs).0 in
    rw e
    (ap (number_by (sign_of bs))
    (ap (run (λ b. is_digit b || is_point b)) (text_drop (sign_length (sign_of bs)) bs (sign_text bs).1)
    ∙ run_text (λ b. is_digit b || is_point b) refl refl (drop (sign_length (sign_of bs)) bs)))

-- ---- how far an item reaches

abbrev Fits : Words.Item → List ℕ → Type 0
Fits (gap k) rest = k ≤ length rest
Fits (word w k) rest = (k ≤ length rest) × Written w.number × (is_capital w.letter ≡ true)
Fits unreadable rest = Unit {0}

item_fits : (i b : ℕ) (rest : List ℕ) → Fits (item_at i b rest) rest
unfolding item_at comment_item word_item
item_fits i b rest = by (is_blank b) (eqb b 40) (is_capital b) refl
  where
    by_comment : (o : Option ℕ) → ((k : ℕ) → o ≡ Some k → k ≤ length rest) → Fits (comment_item o) rest
    by_comment None h = tt
    by_comment (Some k) h = h k refl

    by_number : is_capital b ≡ true → (n : Option Numeral) → ((m : Numeral) → n ≡ Some m → (m.length ≤ length rest) × Written m.number) → Fits (word_item i b n) rest
    by_number e (Some m) h = let f = h m refl in (f.0, f.1, e)
    by_number e None h = tt

    by : (blank paren capital : Bool) → is_capital b ≡ capital → Fits (if blank then gap 0 else (if paren then comment_item (closing rest) else (if capital then word_item i b (number_in rest) else unreadable))) rest
    by true paren capital e = omega arith
    by false true capital e = by_comment (closing rest) (closing_within rest)
    by false false true e = by_number e (number_in rest) (λ m f. (number_short rest m f, number_in_written rest m f))
    by false false false e = tt

-- ---- the item at a place

module _ (l : List ℕ) (i : ℕ) where
  abbrev here : ℕ
  here = get_or l i 0

  abbrev rest : List ℕ
  rest = text_from (drop (i + 1) l)

  pub placed_blank : is_blank here ≡ true → placed i (item_at i here rest) ≡ Ok (item.Gap (i + 1))
  unfolding placed item_at
  placed_blank e = rw e (ap (λ (n : ℕ). Ok (item.Gap n)) (omega arith))

  module _ (e : here ≡ 40) where
    pub placed_open : comment_at (i + 1) rest ≡ None → placed i (item_at i here rest) ≡ Err refusals.Unreadable
    unfolding placed item_at comment_item
    placed_open f = rw e (rw (open_by (i + 1) (closing rest) f))

    pub placed_comment : (next : ℕ) → i < length l → comment_at (i + 1) rest ≡ Some next → placed i (item_at i here rest) ≡ Ok (item.Gap next)
    unfolding placed item_at comment_item
    placed_comment next h f =
        let w = comment_way l (i + 1) next (omega arith) f in
        rw e (rw w.closes (ap (λ (n : ℕ). Ok (item.Gap n)) (sym w.is)))

  module _ (blank : is_blank here ≡ false) (paren : here ≡ 40 → ⊥) where
    pub placed_other : is_capital here ≡ false → placed i (item_at i here rest) ≡ Err refusals.Unreadable
    unfolding placed item_at
    placed_other e = rw (blank, ne_eqb here 40 paren, e)

    module _ (capital : is_capital here ≡ true) where
      by_number : placed i (item_at i here rest) ≡ placed i (word_item i here (number_in rest))
      unfolding item_at
      by_number = rw (blank, ne_eqb here 40 paren, capital)

      pub placed_none : number_in (drop (i + 1) l) ≡ None → placed i (item_at i here rest) ≡ Err refusals.Unreadable
      unfolding placed word_item
      placed_none e = by_number ∙ rw (number_text (drop (i + 1) l)) (rw e)

      pub placed_word :
          (n : Numeral) → number_in (drop (i + 1) l) ≡ Some n
          → placed i (item_at i here rest) ≡ Ok (item.Says (record { letter = here; number = n.number; at = i }) (i + 1 + n.length))
      unfolding placed word_item
      placed_word n e = by_number ∙ rw (number_text (drop (i + 1) l)) (rw e)

-- the number reader reads to the end of the data
pub from_place : (l : List ℕ) (i : ℕ) → number_in (drop (i + 1) l) ≡ number_in (take (length l - (i + 1)) (drop (i + 1) l))
from_place l i = ap number_in (sym (take_rest l (i + 1)))

pub taken_inside : (l : List ℕ) (i : ℕ) (n : Numeral) → i < length l → number_in (drop (i + 1) l) ≡ Some n → i + 1 + n.length ≤ length l
taken_inside l i n h e = omega (arith, number_short (drop (i + 1) l) n e, length-drop (i + 1) l)

pub capital_is : (b : ℕ) → 65 ≤ b → b ≤ 90 → is_capital b ≡ true
capital_is b h k = rw (le-leb 65 b h, le-leb b 90 k)

pub capital_low : (b : ℕ) → b < 65 → is_capital b ≡ false
capital_low b h = rw (lt-leb 65 b h)

pub capital_high : (b : ℕ) → 90 < b → is_capital b ≡ false
capital_high b h = let low : 65 ≤ b = omega arith in rw (le-leb 65 b low, lt-leb b 90 h)

-- ---- the words from a place on, item by item

-- what an item that ends before a place leaves of the words
pub record Gone (l : List ℕ) (i next : ℕ) : Type 0 where
  pub forward : i < next
  pub inside : next ≤ length l
  pub block : next + length_from (drop next l) ≡ i + length_from (drop i l)

module _ (l : List ℕ) (i : ℕ) (going : no_text (drop i l) ≡ false) where
  inside : i < length l
  inside = text_inside l i going

  -- k bytes of the text after the place's byte passed
  pass : (k : ℕ) → k ≤ length (rest l i) → words_after k (i + 1) (rest l i) ≡ words_at l (i + 1 + k)
  pass k h =
      words_pass k (i + 1) (rest l i)
      ∙ ap (words_after 0 (i + 1 + k)) (text_drop k (drop (i + 1) l) h ∙ ap text_from (drop-drop k (i + 1) l))

  shifted : (k : ℕ) → i + suc k ≡ i + 1 + k
  shifted k = omega arith

  gone : (k : ℕ) → k ≤ length (rest l i) → Gone l i (i + 1 + k)
  gone k h =
      record {
        forward = omega arith;
        inside = omega (arith, text_length (drop (i + 1) l), length-drop (i + 1) l, inside);
        block =
            let e = text_next (suc k) (drop i l) (omega (arith, ap length (text_at l i going))) in
            let f = ap (λ (n : ℕ). length_from (drop n l)) (shifted k) in
            let g = ap length_from (drop-drop (suc k) i l) in
            omega (arith, e, f, g);
      }

  at_item : words_at l i ≡ item_then i (item_at i (here l i) (rest l i)) (λ k. words_after k (i + 1) (rest l i))
  unfolding words_after
  at_item = rw (text_at l i going)

  -- the refusal of what begins here is 15
  pub step_bad : (refusal : Refusal) → placed i (item_at i (here l i) (rest l i)) ≡ Err refusal → (words_at l i ≡ bad_at i) × (refusal ≡ refusals.Unreadable)
  unfolding placed item_then
  step_bad refusal e = let g = go (item_at i (here l i) (rest l i)) e in (at_item ∙ g.0, g.1)
    where
      go : (x : Words.Item) → placed i x ≡ Err refusal → (item_then i x (λ k. words_after k (i + 1) (rest l i)) ≡ bad_at i) × (refusal ≡ refusals.Unreadable)
      go (gap k) f = let never : ◌≡◌ {A = ℕ} 0 1 = cc in absurd (omega arith)
      go (word w k) f = let never : ◌≡◌ {A = ℕ} 0 1 = cc in absurd (omega arith)
      go unreadable f = (refl, cc)

  pub step_gap : (next : ℕ) → placed i (item_at i (here l i) (rest l i)) ≡ Ok (item.Gap next) → (words_at l i ≡ words_at l next) × Gone l i next
  unfolding placed item_then
  step_gap next e = go (item_at i (here l i) (rest l i)) (item_fits i (here l i) (rest l i)) at_item e
    where
      go :
          (x : Words.Item) → Fits x (rest l i) → words_at l i ≡ item_then i x (λ k. words_after k (i + 1) (rest l i)) → placed i x ≡ Ok (item.Gap next)
          → (words_at l i ≡ words_at l next) × Gone l i next
      go (gap k) h f g = let is : i + 1 + k ≡ next = cc in (f ∙ pass k h ∙ ap (words_at l) is, rw is at (gone k h))
      go (word w k) h f g = let never : ◌≡◌ {A = ℕ} 0 1 = cc in absurd (omega arith)
      go unreadable h f g = let never : ◌≡◌ {A = ℕ} 0 1 = cc in absurd (omega arith)

  pub step_word :
      (w : Word) (next : ℕ) → placed i (item_at i (here l i) (rest l i)) ≡ Ok (item.Says w next)
      → (words_at l i ≡ with_word w (words_at l next)) × Gone l i next × Written w.number × (is_capital w.letter ≡ true)
  unfolding placed item_then
  step_word w next e = go (item_at i (here l i) (rest l i)) (item_fits i (here l i) (rest l i)) at_item e
    where
      go :
          (x : Words.Item) → Fits x (rest l i) → words_at l i ≡ item_then i x (λ k. words_after k (i + 1) (rest l i)) → placed i x ≡ Ok (item.Says w next)
          → (words_at l i ≡ with_word w (words_at l next)) × Gone l i next × Written w.number × (is_capital w.letter ≡ true)
      go (gap k) h f g = let never : ◌≡◌ {A = ℕ} 0 1 = cc in absurd (omega arith)
      go (word v k) h f g =
          let is : i + 1 + k ≡ next = cc in
          let same : v ≡ w = cc in (
            f ∙ ap (with_word v) (pass k h.0 ∙ ap (words_at l) is) ∙ ap (λ (x : Word). with_word x (words_at l next)) same,
            rw is at (gone k h.0),
            rw same at h.1,
            rw same at h.2,
          )
      go unreadable h f g = let never : ◌≡◌ {A = ℕ} 0 1 = cc in absurd (omega arith)

-- ---- after a word that may not stand

pub status_word : (wrong : ℕ) (w : Word) (x : Words.Words) → status_after wrong (with_word w x) ≡ status_after wrong x
unfolding status_after with_word
status_word wrong w (these ws) = refl
status_word wrong w (bad_at at) = refl

pub status_end : (wrong : ℕ) (l : List ℕ) (i : ℕ) → no_text (drop i l) ≡ true → status_after wrong (words_at l i) ≡ record { refusal = refusals.CannotExecute; byte = wrong }
unfolding status_after words_after
status_end wrong l i e = rw (text_none (drop i l) e)
