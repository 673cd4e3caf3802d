-- Document 01, "Data set and blocks": "Bytes inside a comment, replaced by others that are neither `)`, LF nor CR, change no
-- record and no answer."
use Rattle.std.specs.Prelude.{◌&&◌, ◌||◌, ◌∷◌}
use Rattle.terms.specs.Common.{ℕ, zero, suc, Bool, true, false, not, List, [], eqb}
use Rattle.terms.specs.Terms.{byte}
use Rattle.lines.specs.Blocks.{no_text}

-- whether a comment is open after a byte, by whether one was before it. "`(` to `)` in one block"
abbrev pub open_after : Bool → ℕ → List ℕ → Bool
open_after false b bs = eqb b (byte "(")
open_after true b bs = not (eqb b (byte ")") || no_text (b ∷ bs))

-- whether the byte at a place is inside a comment, neither its `(` nor its `)`
unfoldable pub inside_at : Bool → List ℕ → ℕ → Bool
inside_at open' [] i = false
inside_at open' (b ∷ bs) zero = open' && open_after open' b bs
inside_at open' (b ∷ bs) (suc i) = inside_at (open_after open' b bs) bs i
