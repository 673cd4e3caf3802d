-- Text written into a buffer that may be too short for it, and numbers as text.
use Rattle.std.specs.Prelude.{◌+◌, ◌-◌, ◌/◌, ◌%◌, ◌≡◌, ◌∷◌, ◌++◌, if◌then◌else◌}
use Rattle.terms.specs.Common.{ℕ, zero, suc, List, [], ltb, eqb, ℤ, pos, negsuc, length, sets}
use Rattle.terms.specs.Terms.{bytes}
use Rattle.lengths.specs.declared.Flat.{Flat}

-- Bytes written over a buffer from a place on, as far as the buffer goes, every other byte as it was; and the place after
-- those that it had room for.
pub record Fills (was : List ℕ) (at : ℕ) (bs is : List ℕ) (next : ℕ) : Type 0 where
  pub bytes : is ≡ sets was at bs
  pub place : next ≡ at + (length bs - (at + length bs - length was))

-- texts one after the other, grouped to the right
infixr 5 ◌⧺◌
abbrev pub ◌⧺◌ : List ℕ → List ℕ → List ℕ
a ⧺ b = a ++ b

-- a number in decimal digits, of which there are at most so many: "0" is 48
unfoldable pub digits : ℕ → ℕ → List ℕ
digits zero n = []
digits (suc k) n = if ltb n 10 then (48 + n) ∷ [] else digits k (n / 10) ++ (48 + n % 10) ∷ []

-- twenty digits are enough for 64 bits
abbrev pub decimal : ℕ → List ℕ
decimal n = digits 20 n

-- a signed number as text
unfoldable pub number : ℤ → List ℕ
number (pos n) = decimal n
number (negsuc n) = bytes "-" ++ decimal (suc n)

-- the second number of one pair and the first of another
abbrev pub across : Flat → Flat → Flat
across a b = record { first = a.second; second = b.first }

-- A text with blanks: each "_", which is 95, is the place of the next of four numbers, and after the last of the first again.
unfoldable pub filled : List ℕ → Flat → Flat → List ℕ
filled [] a b = []
filled (c ∷ cs) a b =
    if eqb c 95 then number a.first.v ⧺ filled cs (across a b) (across b a) else c ∷ filled cs a b
