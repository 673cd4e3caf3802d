-- The text of a setup file: its words, and what stands between them.
use Rattle.std.specs.Prelude.{◌+◌, ◌&&◌, ◌||◌, ◌∷◌, if◌then◌else◌}
use Rattle.terms.specs.Common.{ℕ, suc, Bool, true, false, not, List, [], eqb, drop}
use Rattle.terms.specs.Terms.{byte, from_to}
use Rattle.words.specs.Numbers.{run}
use Rattle.texts.specs.declared.{Space.Space, Space.TheVariants.Gap, Space.TheVariants.Word}

-- blanks, tabs, CR and LF separate words
abbrev pub is_blank : ℕ → Bool
is_blank b = eqb b (byte " ") || eqb b (byte "\t") || eqb b (byte "\r") || eqb b (byte "\n")

-- `#` begins a comment up to the end of the line
abbrev pub is_hash : ℕ → Bool
is_hash b = eqb b (byte "#")

-- What a byte is where a comment is open, or where none is: a part of the gap before the next word, with a comment open
-- after it or not, or the first byte of a word.
unfoldable pub space_of : Bool → ℕ → Space
space_of true b = Gap (not (eqb b (byte "\n")))
space_of false b = if is_hash b then Gap true else (if is_blank b then Gap false else Word)

unfoldable pub gap_by : Space → (Bool → ℕ) → ℕ
gap_by (Gap inside) rest = suc (rest inside)
gap_by Word rest = 0

-- how many bytes of blanks and comments the bytes begin with
unfoldable pub gap : Bool → List ℕ → ℕ
gap inside [] = 0
gap inside (b ∷ bs) = gap_by (space_of inside b) (λ o. gap o bs)

-- the place of the next word, or the text's end
unfoldable pub next : List ℕ → ℕ → ℕ
next text at = at + gap false (drop at text)

-- the word at a place, up to a blank, a comment or the end; where none begins, no byte at all
abbrev pub in_word : ℕ → Bool
in_word b = not (is_blank b || is_hash b)

unfoldable pub word_at : List ℕ → ℕ → List ℕ
word_at text at = run in_word (drop at text)

-- two words of the same bytes
unfoldable pub same_bytes : List ℕ → List ℕ → Bool
same_bytes [] [] = true
same_bytes [] (b ∷ bs) = false
same_bytes (a ∷ as') [] = false
same_bytes (a ∷ as') (b ∷ bs) = eqb a b && same_bytes as' bs

-- a word that begins with a small letter
unfoldable pub is_lettered : List ℕ → Bool
is_lettered [] = false
is_lettered (b ∷ bs) = from_to (byte "a") (byte "z") b
