-- The lines before a place of a text, counted byte by byte. Assumes nothing.
use Rattle.terms.proofs.Common.{ℕ, ◌+◌, ◌≤◌, ◌<◌, ◌≡◌, refl, ◌∙◌, List, ◌∷◌, arith, length, take, drop, get_or, drop_of_length-le, length-take, get_or-take, eq-eqb, ne_eqb}
use Rattle.lines.{specs.Blocks.is_lf, proofs.Lines.at_place}
use Rattle.words.specs.Numbers.{count}
use Rattle.shop.specs.Knowing.{line_of}

module _ (text : List ℕ) (at : ℕ) where
  -- the lines that end from here up to the place
  unfoldable pub ending : ℕ → ℕ
  ending i = count is_lf (drop i (take at text))

  pub all_ending : line_of text at ≡ 1 + ending 0
  unfolding line_of ending
  all_ending = refl

  module _ (i : ℕ) where
    none_over : length (take at text) ≤ i → ending i ≡ 0
    unfolding ending count
    none_over h = rw (drop_of_length-le (take at text) h)

    pub none_past : at ≤ i → ending i ≡ 0
    none_past h = none_over (omega (arith, length-take at text))

    pub none_more : length text ≤ i → ending i ≡ 0
    none_more h = none_over (omega (arith, length-take at text))

    module _ (inside : i < length text) (before : i < at) where
      there : drop i (take at text) ≡ get_or text i 0 ∷ drop (i + 1) (take at text)
      there =
          let h : i < length (take at text) = omega (arith, length-take at text) in
          at_place (take at text) i h ∙ rw (get_or-take at text i 0 before)

      pub one_ends : get_or text i 0 ≡ 10 → ending i ≡ 1 + ending (i + 1)
      unfolding ending count
      one_ends e = rw there (rw (eq-eqb (get_or text i 0) 10 e))

      pub goes_on : (get_or text i 0 ≡ 10 → ⊥) → ending i ≡ ending (i + 1)
      unfolding ending count
      goes_on e = rw there (rw (ne_eqb (get_or text i 0) 10 e) (omega arith))
