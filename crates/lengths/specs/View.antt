-- A signed number seen as the difference of two naturals, over − under. In this view a sum, a difference and an order of signed
-- numbers are linear facts of naturals, which antt's arithmetic decides. The contracts of the methods are records of such facts.
use Rattle.std.specs.Prelude.{◌+◌, ◌^◌, ◌≤◌, ◌<◌}
use Rattle.terms.specs.Common.{ℕ, zero, suc, ℤ, pos, negsuc}

-- both are marked `abbrev`, so that at a literal they are numbers: `over (negsuc 4)` is 0
abbrev pub over : ℤ → ℕ
over (pos n) = n
over (negsuc n) = zero

abbrev pub under : ℤ → ℕ
under (pos n) = zero
under (negsuc n) = suc n

-- z is at most n away from 0
pub record Within (n : ℕ) (z : ℤ) : Type 0 where
  pub hi : over z ≤ under z + n
  pub lo : under z ≤ over z + n

-- z is a number of four bytes with a sign
pub record Short (z : ℤ) : Type 0 where
  pub hi : over z < under z + 2 ^ 31
  pub lo : under z ≤ over z + 2 ^ 31
