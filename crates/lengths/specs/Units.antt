-- Lengths: signed whole numbers in units of 0.00001 mm. What a reader needs of them: sums and differences, the
-- square, and the four bytes of a number in the list.
use Rattle.std.specs.Prelude.{◌+◌, ◌-◌, ◌*◌, ◌/◌, ◌%◌, ◌^◌, ◌∷◌, ◌+ℤ◌, ◌-ℤ◌}
use Rattle.terms.specs.Common.{ℕ, suc, Bool, true, false, List, [], ltb, ℤ, pos, negsuc, nat_abs}
use Rattle.lengths.specs.declared.Len.{Len}

abbrev pub len : ℤ → Len
len z = record { v = z }

infixl 6 ◌⊕◌
abbrev pub ◌⊕◌ : Len → Len → Len
a ⊕ b = len (a.v +ℤ b.v)

infixl 6 ◌⊖◌
abbrev pub ◌⊖◌ : Len → Len → Len
a ⊖ b = len (a.v -ℤ b.v)

-- the square of a number, which is never below 0
abbrev pub sq : ℤ → ℕ
sq z = nat_abs z * nat_abs z

-- half of a number, rounded down: of −1 it is −1
unfoldable pub halved : ℤ → ℤ
halved (pos n) = pos (n / 2)
halved (negsuc n) = negsuc (n / 2)

-- "numbers are four bytes, little end first, signed"

unfoldable pub fits_four : ℤ → Bool
fits_four (pos n) = ltb n (2 ^ 31)
fits_four (negsuc n) = ltb n (2 ^ 31)

-- the word of 32 bits that stands for a number that fits
unfoldable pub word_of : ℤ → ℕ
word_of (pos n) = n
word_of (negsuc n) = 2 ^ 32 - suc n

abbrev pub four_of : ℕ → List ℕ
four_of n = n % 256 ∷ n / 256 % 256 ∷ n / 65536 % 256 ∷ n / 16777216 % 256 ∷ []

abbrev pub four_bytes : ℤ → List ℕ
four_bytes z = four_of (word_of z)

unfoldable pub signed_of : Bool → ℕ → ℤ
signed_of true n = pos n
signed_of false n = negsuc (2 ^ 32 - suc n)

-- the number that four bytes give, the first being the little end
unfoldable pub of_four : ℕ → ℕ → ℕ → ℕ → ℤ
of_four a b c d = let n = a + 256 * b + 65536 * c + 16777216 * d in signed_of (ltb n (2 ^ 31)) n
