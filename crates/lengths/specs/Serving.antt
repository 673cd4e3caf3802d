-- What only serves proofs: what each method on lengths asks and answers, the value as a definition and the same as linear facts
-- of naturals (specs/View.antt).
use Rattle.std.specs.Prelude.{◌+◌, ◌-◌, ◌*◌, ◌^◌, ◌≤◌, ◌<◌, ◌≡◌, ◌-ℤ◌, ◌*ℤ◌}
use Rattle.terms.specs.Common.{ℕ, true, ℤ, pos, neg_ℤ, nat_abs}
use Rattle.lengths.specs.{declared.Len.Len, Units.len, Units.◌⊕◌, Units.◌⊖◌, Units.fits_four, Units.of_four, View.Short, View.Within, View.over, View.under}

-- x − y is a number of 64 bits with a sign
pub record Room (x y : ℕ) : Type 0 where
  pub hi : x < y + 2 ^ 63
  pub lo : y ≤ x + 2 ^ 63

pub record Is (z : ℤ) (r : Len) : Type 0 where
  pub is : r ≡ len z
  pub ups : over r.v ≡ over z
  pub downs : under r.v ≡ under z

pub record Counted (n : ℕ) (r : Len) : Type 0 where
  pub is : r ≡ len (pos n)
  pub ups : over r.v ≡ n
  pub downs : under r.v ≡ 0

pub record Sum (a b r : Len) : Type 0 where
  pub is : r ≡ a ⊕ b
  pub bal : over r.v + (under a.v + under b.v) ≡ under r.v + (over a.v + over b.v)

pub record Difference (a b r : Len) : Type 0 where
  pub is : r ≡ a ⊖ b
  pub bal : over r.v + (under a.v + over b.v) ≡ under r.v + (over a.v + under b.v)

pub record Negation (a r : Len) : Type 0 where
  pub is : r ≡ len (neg_ℤ a.v)
  pub ups : over r.v ≡ under a.v
  pub downs : under r.v ≡ over a.v

-- how far a and b are apart. The two bounds are what a caller mostly wants; `sum` says that no smaller number serves
pub record Apart (a b : Len) (r : ℕ) : Type 0 where
  pub is : r ≡ nat_abs (a.v -ℤ b.v)
  pub hi : over a.v + under b.v ≤ over b.v + under a.v + r
  pub lo : over b.v + under a.v ≤ over a.v + under b.v + r
  pub sum :
      r ≡ (over a.v + under b.v - (over b.v + under a.v))
      + (over b.v + under a.v - (over a.v + under b.v))

pub record Product (a b r : Len) : Type 0 where
  pub is : r ≡ len (a.v *ℤ b.v)
  pub near : Within (2147483647 * 2147483647) r.v

-- a number read from its four bytes
pub record Read (a b c d : ℕ) (r : Len) : Type 0 where
  pub is : r ≡ len (of_four a b c d)
  pub fits : fits_four r.v ≡ true
  pub short : Short r.v
