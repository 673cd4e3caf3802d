-- Document 01, "Data set and blocks": the blocks of the data.
use Rattle.std.specs.Prelude.{◌+◌, ◌-◌, ◌&&◌, ◌||◌, ◌∷◌, if◌then◌else◌}
use Rattle.terms.specs.Common.{ℕ, zero, suc, Bool, true, false, List, [], eqb}
use Rattle.terms.specs.Terms.{byte}

unfoldable pub begins_with : ℕ → List ℕ → Bool
begins_with first [] = false
begins_with first (b ∷ bs) = eqb b first

abbrev pub is_lf : ℕ → Bool
is_lf b = eqb b (byte "\n")

-- "LF ends a block; a CR just before it is dropped": the text that the bytes begin with ends at such a byte
abbrev pub ends_at : ℕ → List ℕ → Bool
ends_at b bs = is_lf b || eqb b (byte "\r") && begins_with (byte "\n") bs

unfoldable pub text_from : List ℕ → List ℕ
text_from [] = []
text_from (b ∷ bs) = if ends_at b bs then [] else b ∷ text_from bs

-- the text ends where the bytes begin
unfoldable pub no_text : List ℕ → Bool
no_text [] = true
no_text (b ∷ bs) = ends_at b bs

-- how many bytes the block takes that the bytes begin with, LF and CR among them. "bytes after the last LF, if any, are
-- a block"
unfoldable pub length_from : List ℕ → ℕ
length_from [] = 0
length_from (b ∷ bs) = if is_lf b then 1 else suc (length_from bs)

-- a block's number, its first byte's place, its text, and the place of the next block
pub record Block : Type 0 where
  pub number : ℕ
  pub start : ℕ
  pub text : List ℕ
  pub next : ℕ

abbrev pub block_from : ℕ → ℕ → List ℕ → Block
block_from n at bs = record { number = n; start = at; text = text_from bs; next = at + length_from bs }

-- The blocks of the bytes, of which the first `pass` belong to a block that began before. The next block to begin has the
-- number n and begins at the place `at`.
unfoldable pub blocks_after : ℕ → ℕ → ℕ → List ℕ → List Block
blocks_after pass n at [] = []
blocks_after zero n at (b ∷ bs) =
    block_from n at (b ∷ bs) ∷ blocks_after (length_from (b ∷ bs) - 1) (n + 1) (at + length_from (b ∷ bs)) bs
blocks_after (suc pass) n at (b ∷ bs) = blocks_after pass n at bs

-- "Blocks count from 1, bytes from 0."
unfoldable pub blocks_of : List ℕ → List Block
blocks_of bytes = blocks_after 0 1 0 bytes

-- "`%` alone": the text has this byte and no other
unfoldable pub is_percent : List ℕ → Bool
is_percent [] = false
is_percent (b ∷ []) = eqb b (byte "%")
is_percent (b ∷ c ∷ bs) = false

-- "A later `%` alone ends the data; nothing after it is read."
abbrev pub closes : Block → Bool
closes b = is_percent b.text

-- "A block whose first byte is `O` opens a program"
abbrev pub opens : Block → Bool
opens b = begins_with (byte "O") b.text

-- "`/` as first byte"
abbrev pub is_slashed : Block → Bool
is_slashed b = begins_with (byte "/") b.text
