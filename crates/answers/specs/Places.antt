-- Where a byte of the data stands: the text of its block around it.
use Rattle.std.specs.Prelude.{◌+◌, ◌≤◌, ◌<◌, ◌≡◌}
use Rattle.terms.specs.Common.{ℕ, true, false, List, get_or}
use Rattle.lines.specs.Blocks.{is_lf}

-- The block that a place lies in begins here: no LF stands between, and just before it the data begins or an LF stands.
pub record Begins (bytes : List ℕ) (at from : ℕ) : Type 0 where
  pub before : from ≤ at
  pub unbroken : (k : ℕ) → from ≤ k → k < at → is_lf (get_or bytes k 0) ≡ false
  pub after : (k : ℕ) → from ≡ k + 1 → is_lf (get_or bytes k 0) ≡ true
