-- What it is that a length plus a real root is not above another length, and that it is not below one.
use Rattle.std.specs.Prelude.{◌*◌, ◌≤◌, ◌≡◌, ◌+ℤ◌, ◌*ℤ◌}
use Rattle.terms.specs.Common.{ℕ, true, pos, le_z}
use Rattle.lengths.specs.declared.Len.{Len}

-- The real root of q is the least number that is not below any fraction p / n whose square is at most q. So a plus the root is not
-- above b where a + p / n is not above b for each such fraction.
abbrev pub RootBetween : Len → ℕ → Len → Type 0
RootBetween a q b = (p n : ℕ) → p * p ≤ q * (n * n) → le_z (pos n *ℤ a.v +ℤ pos p) (pos n *ℤ b.v) ≡ true

-- It is also the greatest number that is not above any fraction whose square is at least q. So a plus the root is not below b where
-- a + p / n is not below b for each of those.
abbrev pub RootReaches : Len → ℕ → Len → Type 0
RootReaches a q b = (p n : ℕ) → q * (n * n) ≤ p * p → le_z (pos n *ℤ b.v) (pos n *ℤ a.v +ℤ pos p) ≡ true
