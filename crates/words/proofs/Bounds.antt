-- What a value is bound by, where the rules give one.
use Rattle.terms.proofs.Common.{ℕ, ◌≡◌, refl, Bool, true, false, Some, arith, ℤ, pos, lt_z}
use Rattle.terms.{specs.Terms.within, specs.Terms.between, proofs.Laws.both_left, proofs.Laws.both_right}
use Rattle.lengths.{specs.Units.len, specs.View.Within, specs.declared.Len.Len, proofs.Tests.within_near}
use Rattle.codes.specs.declared.Unit.{Unit}
use Rattle.words.specs.declared.{Number.Number, Use.TheVariants.Length, Use.TheVariants.Feed, Use.TheVariants.Dwell}
use Rattle.words.specs.Values.{checked, value_of, decimals_fit, places_of, length_of, is_length, longest, dwell_of, is_dwell}

-- a value that passed its test is the one that was tested
pub record Tested (t : Bool) (z : ℤ) (v : Len) : Type 0 where
  pub passed : t ≡ true
  pub is : v ≡ len z

pub tested : (t : Bool) (z : ℤ) (v : Len) → checked t z ≡ Some v → Tested t z v
unfolding checked
tested true z v e = record { passed = refl; is = cc }
tested false z v e = let never : ◌≡◌ {A = ℕ} 0 1 = cc in absurd (omega arith)

-- "Magnitude at most 1,000,000,000 units": of a length, and of a feed, which is above 0 besides
length_within : (u : Unit) (n : Number) → is_length u n ≡ true → Within 1_000_000_000 (length_of u n)
unfolding is_length
length_within u n e =
    within_near longest (length_of u n) (both_right (decimals_fit (places_of u) n) (within longest (length_of u n)) e)

module _ (u : Unit) (lowest highest : ℤ) (n : Number) (v : Len) where
  pub length_near : value_of u lowest highest Length n ≡ Some v → Within 1_000_000_000 v.v
  unfolding value_of
  length_near e =
      let t = tested (is_length u n) (length_of u n) v e in
      rw t.is (length_within u n t.passed)

  pub feed_near : value_of u lowest highest Feed n ≡ Some v → (Within 1_000_000_000 v.v) × (lt_z (pos 0) v.v ≡ true)
  unfolding value_of
  feed_near e =
      let t = tested _ (length_of u n) v e in
      rw t.is (
        length_within u n (both_left (is_length u n) (lt_z (pos 0) (length_of u n)) t.passed),
        both_right (is_length u n) (lt_z (pos 0) (length_of u n)) t.passed,
      )

  -- "0 to 3,600,000 ms"
  pub dwell_between : value_of u lowest highest Dwell n ≡ Some v → between (pos 0) (pos 3_600_000) v.v ≡ true
  unfolding value_of is_dwell
  dwell_between e =
      let t = tested (is_dwell n) (dwell_of n) v e in
      rw t.is (both_right (decimals_fit 3 n) (between (pos 0) (pos 3_600_000) (dwell_of n)) t.passed)
