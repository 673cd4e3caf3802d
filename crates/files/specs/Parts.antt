-- The file beside a path, which has the bytes until all of them are there. A number's six figures take the place of the X's, so
-- that no other file has the name.
use Rattle.std.specs.Prelude.{◌+◌, ◌-◌, ◌/◌, ◌%◌, ◌≡◌, ◌≤◌, ◌∷◌, ◌++◌, if◌then◌else◌, option_map, IfSome}
use Rattle.terms.specs.Common.{ℕ, Option, None, Some, List, [], ltb, length, take, paste}
use Rattle.io.specs.Counts.{IsPrefixLen}
use Rattle.terms.specs.Terms.{bytes}

unfoldable pub part_of : List ℕ → List ℕ
part_of path = path ++ bytes ".part-XXXXXX"

-- its name in a buffer of so many bytes, which has to hold a 0 after it; none where the name is too long
unfoldable pub part_in : ℕ → List ℕ → Option (List ℕ)
part_in room path = if ltb (length path + 12) room then Some (part_of path) else None

-- a text written over a buffer from a place on, and the place after it
pub record Puts (was : List ℕ) (at : ℕ) (text is : List ℕ) (next : ℕ) : Type 0 where
  pub place : next ≡ at + length text
  pub bytes : is ≡ paste was at text (length text)

-- the name from the buffer's first byte on, and how many bytes it has
pub record Names (path was is : List ℕ) (n : Option ℕ) : Type 0 where
  pub counts : IfSome n (λ k. IsPrefixLen k is)
  pub name : option_map (λ k. take k is) n ≡ part_in (length was) path

-- a number's last figure, as a byte
abbrev pub figure : ℕ → ℕ
figure k = 48 + k % 10

-- its last six
abbrev pub figures : ℕ → List ℕ
figures k = figure (k / 100_000) ∷ (figure (k / 10_000) ∷ (figure (k / 1_000) ∷ (figure (k / 100) ∷ (figure (k / 10) ∷ (figure k ∷ [])))))

-- a name whose last six bytes are a number's figures, and whose other bytes are as they were
abbrev pub Numbered : List ℕ → ℕ → List ℕ → Type 0
Numbered was k is = 6 ≤ length was → Puts was (length was - 6) (figures k) is (length was)
