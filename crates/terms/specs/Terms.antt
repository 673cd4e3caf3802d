-- The words that the definitions of every layer are written in.
use Rattle.std.specs.Prelude.{if◌then◌else◌, cond, ◌&&◌, ◌||◌, ◌∷◌}
use Rattle.terms.specs.Common.{ℕ, Char, code, String, Bool, true, false, Option, None, Some, List, [], leb, eqb, ℤ, nat_abs, le_z}
use Prim.Native.String as Text

-- the bytes of a text that is written in ASCII
abbrev pub bytes : String → List ℕ
bytes Text.[] = []
bytes (Text.◌∷◌ c s) = code c ∷ bytes s

-- the byte of one character
abbrev pub byte : Char → ℕ
byte c = code c

module _ {A : Type 0} where
  -- the first that there is
  unfoldable pub first_of : List (Option A) → Option A
  first_of [] = None
  first_of (None ∷ os) = first_of os
  first_of (Some a ∷ os) = Some a

  -- something under a condition
  abbrev pub when : Bool → A → Option A
  when true a = Some a
  when false a = None

  -- the first of a list that passes a test
  unfoldable pub first : (A → Bool) → List A → Option A
  first test [] = None
  first test (a ∷ as') = cond (test a) (Some a) (first test as')

  -- whether there is something
  unfoldable pub stands : Option A → Bool
  stands None = false
  stands (Some a) = true

module _ {ℓ} {A : Type ℓ} where
  -- whether one of a list, or each of it, passes a test
  unfoldable pub any : (A → Bool) → List A → Bool
  any test [] = false
  any test (a ∷ as') = test a || any test as'

  unfoldable pub all : (A → Bool) → List A → Bool
  all test [] = true
  all test (a ∷ as') = test a && all test as'

-- what stands beside a number in a table, or else `other`
unfoldable pub lookup : {A : Type 0} → ℕ → List (ℕ × A) → A → A
lookup n [] other = other
lookup n (row ∷ rows) other = if eqb n row.0 then row.1 else lookup n rows other

-- a number is from a to b, both counted
abbrev pub from_to : ℕ → ℕ → ℕ → Bool
from_to a b n = leb a n && leb n b

-- the same of signed numbers
abbrev pub between : ℤ → ℤ → ℤ → Bool
between a b z = le_z a z && le_z z b

-- a signed number is within ± n
abbrev pub within : ℕ → ℤ → Bool
within n z = leb (nat_abs z) n
