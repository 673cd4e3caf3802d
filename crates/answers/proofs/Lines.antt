-- The block around a place of the data. Assumes nothing.
use Rattle.terms.proofs.Common.{ℕ, suc, ◌+◌, ◌≤◌, ◌<◌, ◌≡◌, ap, true, false, List, length, drop, drop_of_length-le, get_or}
use Rattle.lines.{specs.Blocks.is_lf, specs.Blocks.text_from, specs.Blocks.no_text, proofs.Laws.text_none, proofs.Laws.text_at}

module _ (l : List ℕ) (i : ℕ) where
  pub text_over : no_text (drop i l) ≡ true → length (text_from (drop i l)) ≡ 0
  text_over e = ap length (text_none (drop i l) e)

  pub text_more : no_text (drop i l) ≡ false → length (text_from (drop i l)) ≡ suc (length (text_from (drop (i + 1) l)))
  text_more e = ap length (text_at l i e)

  pub text_past : length l ≤ i → length (text_from (drop i l)) ≡ 0
  unfolding text_from
  text_past h = ap (λ r. length (text_from r)) (drop_of_length-le l h)

-- no LF stands from a place up to another
abbrev pub Whole : List ℕ → ℕ → ℕ → Type 0
Whole l at from = (k : ℕ) → from ≤ k → k < at → is_lf (get_or l k 0) ≡ false
