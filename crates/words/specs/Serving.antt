-- What only serves proofs: what holds of every number that is read, and the steps in which a value is reckoned.
use Rattle.std.specs.Prelude.{◌≤◌, ◌<◌, ◌≡◌}
use Rattle.terms.specs.Common.{ℕ, false}
use Rattle.words.specs.{declared.Number.Number, Values.steps_of}

-- what holds of every number that is read (number_in_written, in proofs/)
pub record Written (n : Number) : Type 0 where
  pub digits : n.digits < 1_000_000_000
  pub decimals : n.decimals ≤ 9
  pub whole : n.point ≡ false → n.decimals ≡ 0

-- what the step counter answers: the definition's number, and that it leaves room for a product
pub record Steps (places : ℕ) (n : Number) (r : ℕ) : Type 0 where
  pub is : r ≡ steps_of places n
  pub most : r < 10_000_000_000_000
