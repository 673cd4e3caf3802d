-- "Let r be the largest whole number whose square is not above the squared start radius."
use Rattle.std.specs.Prelude.{◌+◌, ◌*◌, ◌/◌, ◌<◌, ◌≤◌, if◌then◌else◌}
use Rattle.terms.specs.Common.{ℕ, zero, suc, leb}

-- r is the largest whole number whose square is not above q
pub record Root (q r : ℕ) : Type 0 where
  pub not_above : r * r ≤ q
  pub largest : q < (r + 1) * (r + 1)

-- twice the root s of a quarter of q, or one more
unfoldable pub next_root : ℕ → ℕ → ℕ
next_root q s = if leb ((2 * s + 1) * (2 * s + 1)) q then 2 * s + 1 else 2 * s

-- The root of a number below 4 ^ k, from the root of a quarter of it. proofs/Root.antt shows that it is the number that
-- `Root` means.
unfoldable pub root_below : ℕ → ℕ → ℕ
root_below zero q = 0
root_below (suc k) q = next_root q (root_below k (q / 4))

abbrev pub root : ℕ → ℕ
root q = root_below 32 q
