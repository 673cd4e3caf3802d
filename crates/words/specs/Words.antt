-- Document 01, "Data set and blocks": the words of a block's text, with blanks and comments between them.
use Rattle.std.specs.Prelude.{◌+◌, ◌||◌, ◌∷◌, if◌then◌else◌}
use Rattle.terms.specs.Common.{ℕ, zero, suc, Bool, Option, None, Some, List, [], eqb}
use Rattle.terms.specs.Terms.{byte, from_to}
use Rattle.words.specs.{Numbers.number_in, declared.Numeral.Numeral, declared.Word.Word}

-- "Blanks (space, tab)"
abbrev pub is_blank : ℕ → Bool
is_blank b = eqb b (byte " ") || eqb b (byte "\t")

abbrev pub is_capital : ℕ → Bool
is_capital b = from_to (byte "A") (byte "Z") b

-- how many bytes lead to the first closing parenthesis, itself counted
unfoldable pub one_more : Option ℕ → Option ℕ
one_more None = None
one_more (Some k) = Some (suc k)

unfoldable pub closing : List ℕ → Option ℕ
closing [] = None
closing (b ∷ bs) = if eqb b (byte ")") then Some 1 else one_more (closing bs)

-- What begins at a byte: a gap, which is a blank or a comment, or a word, each with the number of further bytes that
-- belong to it; or nothing readable.
pub data Item : Type 0 where
  gap : ℕ → Item
  word : Word → ℕ → Item
  unreadable : Item

-- "`(` to `)` in one block is a comment; an unclosed `(` or a stray `)` is 15."
unfoldable pub comment_item : Option ℕ → Item
comment_item None = unreadable
comment_item (Some k) = gap k

-- "A word is a capital letter and, directly after, a number"
unfoldable pub word_item : ℕ → ℕ → Option Numeral → Item
word_item at letter (Some n) = word (record { letter = letter; number = n.number; at = at }) n.length
word_item at letter None = unreadable

unfoldable pub item_at : ℕ → ℕ → List ℕ → Item
item_at at b bs =
    if is_blank b then gap 0
    else (if eqb b (byte "(") then comment_item (closing bs)
    else (if is_capital b then word_item at b (number_in bs)
    else unreadable))

-- The words of a text, or the place of its leftmost unreadable byte or number.
pub data Words : Type 0 where
  these : List Word → Words
  bad_at : ℕ → Words

unfoldable pub with_word : Word → Words → Words
with_word w (these ws) = these (w ∷ ws)
with_word w (bad_at at) = bad_at at

-- the words from an item on, `rest` being those that follow when so many bytes more are passed
unfoldable pub item_then : ℕ → Item → (ℕ → Words) → Words
item_then at (gap k) rest = rest k
item_then at (word w k) rest = with_word w (rest k)
item_then at unreadable rest = bad_at at

-- the words of the bytes, of which the first `pass` belong to an item that began before; the first byte's place is `at`
unfoldable pub words_after : ℕ → ℕ → List ℕ → Words
words_after pass at [] = these []
words_after zero at (b ∷ bs) = item_then at (item_at at b bs) (λ k. words_after k (at + 1) bs)
words_after (suc pass) at (b ∷ bs) = words_after pass (at + 1) bs

abbrev pub words_of : ℕ → List ℕ → Words
words_of at text = words_after 0 at text
