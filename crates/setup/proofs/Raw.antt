-- A raw number of 64 bits as a length, and the tests of the limits on lengths. Assumes nothing.
use Rattle.terms.proofs.Common.{ℕ, ◌≡◌, ap, ◌∙◌, arith, leb, ℤ, pos, ◌-ℤ◌}
use mir.{Syntax.w64, Val.SFits, Val.to_z, Val.of_z, Facts.to_z-of_z}
use Rattle.terms.specs.Terms.{within}
use Rattle.lengths.{specs.declared.Len.Len, specs.Units.len, specs.Serving.Is, specs.Serving.Apart, specs.Serving.Counted, proofs.Laws.view_eq, proofs.Laws.diff_bal}

pub of_raw : (z : ℤ) (r : Len) → SFits w64 z → Is (to_z w64 (of_z w64 z)) r → r ≡ len z
of_raw z r f h = h.is ∙ ap len (to_z-of_z f)

-- how far a number is from 0
less_zero : (z : ℤ) → z -ℤ pos 0 ≡ z
less_zero z = view_eq (z -ℤ pos 0) z (omega (arith, diff_bal z (pos 0)))

pub from_zero : (v zero : Len) (d n : ℕ) → Counted 0 zero → Apart v zero d → leb d n ≡ within n v.v
from_zero v zero d n z a = ap (λ (k : ℕ). leb k n) (a.is ∙ rw (z.is, less_zero v.v))
