-- The words of a command by their places. Assumes nothing.
use Rattle.std.{specs.Prelude.if◌then◌else◌, specs.List.count_by, specs.List.position_or_len, specs.List.position, proofs.lemmas.Option.cond_some, proofs.lemmas.Option.none-some, proofs.lemmas.List.Recursion.is_count_by, proofs.lemmas.List.Recursion.is_position_or_len}
use Rattle.terms.proofs.Common.{ℕ, zero, suc, ◌+◌, ◌-◌, ◌≤◌, ◌<◌, ◌≡◌, refl, sym, ap, ◌∙◌, Bool, true, false, cond, not, Option, Some, None, List, [], ◌∷◌, arith, length, take, take-length, drop, ltb, ltb-false, drop_of_length-le, length-drop, drop-drop}
use Rattle.words.{specs.Numbers.run, specs.Numbers.count, proofs.Numbers.run_short}
use Rattle.texts.proofs.Places.{run_take}
use Rattle.commands.specs.Words.{is_end, count_in, word_in, after_word, after_words}

-- ---- in the kit's words

pub ends_counted : (l : List ℕ) → count_in l ≡ count_by is_end l
unfolding count_in count
ends_counted = is_count_by count_in is_end refl (λ b bs. either (is_end b) (count is_end bs))
  where
    either : (t : Bool) (n : ℕ) → (if t then 1 else 0) + n ≡ cond t (1 + n) n
    either true n = refl
    either false n = omega arith

-- how many bytes the first word has, which the first end tells
pub first_end : (l : List ℕ) → length (word_in l) ≡ position_or_len is_end l
unfolding word_in run
first_end = is_position_or_len (λ l. length (word_in l)) is_end refl (λ b bs. either (is_end b) b (run (λ b. not (is_end b)) bs))
  where
    either : (t : Bool) (b : ℕ) (bs : List ℕ) → length (if not t then b ∷ bs else []) ≡ cond t 0 (1 + length bs)
    either true b bs = refl
    either false b bs = omega arith

none_when : (t : Bool) (n : ℕ) → cond t (Some n) None ≡ None → t ≡ false
none_when true n e = absurd (none-some n (sym e))
none_when false n e = refl

pub to_end : (l : List ℕ) (from : ℕ) → take (length l - from) (drop from l) ≡ drop from l
to_end l from = ap (λ (n : ℕ). take n (drop from l)) (sym (length-drop from l)) ∙ take-length (drop from l)

module _ (l : List ℕ) {r : Option ℕ} (e : r ≡ position is_end l) where
  pub word_ended : {n : ℕ} → r ≡ Some n → n ≡ length (word_in l)
  word_ended {n} g =
      let k = position_or_len is_end l in
      sym (cond_some (ltb k (length l)) k n (sym e ∙ g)).1 ∙ sym (first_end l)

  pub word_unended : r ≡ None → length l ≡ length (word_in l)
  unfolding word_in
  word_unended g =
      let k = position_or_len is_end l in
      omega (arith, ltb-false k (length l) (none_when (ltb k (length l)) k (sym e ∙ g)), first_end l, run_short (λ b. not (is_end b)) l)

module _ (l : List ℕ) (i : ℕ) where
  pub word_inside : i ≤ length l → i + length (word_in (drop i l)) ≤ length l
  unfolding word_in
  word_inside h = omega (arith, run_short (λ b. not (is_end b)) (drop i l), length-drop i l)

-- ---- what comes after words

module _ (l : List ℕ) (from end : ℕ) (e : end ≡ from + length (word_in (drop from l))) where
  pub past_word : drop (end + 1) l ≡ after_word (drop from l)
  unfolding after_word
  past_word =
      let n = length (word_in (drop from l)) in
      let same : from + (n + 1) ≡ end + 1 = omega arith in
      sym (drop-drop (n + 1) from l ∙ ap (λ (k : ℕ). drop k l) same)

  -- the last word may lack its end
  pub past_last : length l ≤ end → drop (length l) l ≡ after_word (drop from l)
  past_last h =
      let all : length l ≤ length l = omega arith in
      let more : length l ≤ end + 1 = omega arith in
      drop_of_length-le l all ∙ sym (drop_of_length-le l more) ∙ past_word

  pub is_word : take (end - from) (drop from l) ≡ word_in (drop from l)
  unfolding word_in
  is_word =
      let same : end - from ≡ length (word_in (drop from l)) = omega arith in
      ap (λ (k : ℕ). take k (drop from l)) same ∙ run_take (λ b. not (is_end b)) (drop from l)

pub one_less : (n : ℕ) (bytes : List ℕ) → 0 < n → after_words n bytes ≡ after_words (n - 1) (after_word bytes)
unfolding after_words
one_less zero bytes h = absurd (omega arith)
one_less (suc n) bytes h =
    let same : n ≡ suc n - 1 = omega arith in
    ap (λ (k : ℕ). after_words k (after_word bytes)) same

pub none_left : (bytes : List ℕ) → after_words 0 bytes ≡ bytes
unfolding after_words
none_left bytes = refl
