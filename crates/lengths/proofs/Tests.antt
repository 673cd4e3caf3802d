-- The tests of the rules, in the view that proofs use.
use Rattle.terms.proofs.Common.{ℕ, ◌≡◌, true, arith, leb-true, ℤ, nat_abs, le_z}
use Rattle.terms.{specs.Terms.within, specs.Terms.between, proofs.Laws.both_left, proofs.Laws.both_right}
use Rattle.lengths.specs.View.{Within}
use Rattle.lengths.proofs.Laws.{abs_near, view}

pub within_near : (n : ℕ) (z : ℤ) → within n z ≡ true → Within n z
within_near n z e = abs_near z (leb-true (nat_abs z) n e)

-- what lies between two numbers near 0 is as near
pub between_near : (n : ℕ) (a b z : ℤ) → Within n a → Within n b → between a b z ≡ true → Within n z
between_near n a b z h k e =
    let low : le_z a z ≡ true = both_left (le_z a z) (le_z z b) e in
    let high : le_z z b ≡ true = both_right (le_z a z) (le_z z b) e in
    omega (arith, view)
