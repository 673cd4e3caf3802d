-- What only serves proofs: what a writer leaves in a list.
use Rattle.std.specs.Prelude.{◌+◌, ◌≡◌}
use Rattle.terms.specs.Common.{ℕ, List, length, sets}

-- bytes written over a list from a place on, every other byte as it was, and the place after them
pub record Wrote (was : List ℕ) (at : ℕ) (bs is : List ℕ) (next : ℕ) : Type 0 where
  pub bytes : is ≡ sets was at bs
  pub place : next ≡ at + length bs
