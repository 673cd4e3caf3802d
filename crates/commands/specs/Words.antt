-- The words of a command, each ended by a byte 0, which no word can hold.
use Rattle.std.specs.Prelude.{◌+◌}
use Rattle.terms.specs.Common.{ℕ, zero, suc, Bool, not, List, eqb, length, drop}
use Rattle.words.specs.Numbers.{run, count}

abbrev pub is_end : ℕ → Bool
is_end b = eqb b 0

-- how many words there are
unfoldable pub count_in : List ℕ → ℕ
count_in line = count is_end line

-- the word that the bytes begin with
unfoldable pub word_in : List ℕ → List ℕ
word_in bytes = run (λ b. not (is_end b)) bytes

-- what comes after that word and its end
unfoldable pub after_word : List ℕ → List ℕ
after_word bytes = drop (length (word_in bytes) + 1) bytes

unfoldable pub after_words : ℕ → List ℕ → List ℕ
after_words zero bytes = bytes
after_words (suc k) bytes = after_words k (after_word bytes)

-- the word number k, the first being 0; no byte where there is none
unfoldable pub word_of : ℕ → List ℕ → List ℕ
word_of k line = word_in (after_words k line)
