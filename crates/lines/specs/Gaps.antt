-- Blanks and comments, found by their places.
use Rattle.std.specs.Prelude.{◌∷◌}
use Rattle.terms.specs.Common.{ℕ, Bool, true, false, List, []}
use Rattle.words.specs.Words.{Words, these, bad_at, words_of}

-- the text reads as no word at all
unfoldable pub no_words : Words → Bool
no_words (these []) = true
no_words (these (w ∷ ws)) = false
no_words (bad_at at) = false

-- "only blanks and comments"
unfoldable pub only_gaps : List ℕ → Bool
only_gaps text = no_words (words_of 0 text)
