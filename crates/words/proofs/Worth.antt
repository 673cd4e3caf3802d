-- Laws of what a written number is worth: the value that the code computes is the rule's. Assumes nothing.
use Rattle.std.specs.Prelude.{if◌then◌else◌}
use Rattle.terms.proofs.Common.{ℕ, zero, suc, ◌-◌, ◌*◌, ◌^◌, ◌≤◌, ◌<◌, min, ◌≡◌, refl, sym, ◌∙◌, Bool, true, false, ◌&&◌, Option, None, Some, mul-le-mul, pow-le-pow_right, arith, leb, ℤ, pos, nat_abs, le_z, lt_z, le-leb, lt-leb}
use Rattle.lengths.specs.{Units.len, declared.Len.Len}
use Rattle.codes.specs.declared.Unit.{Unit, TheVariants.Inch, TheVariants.Millimetre}
use Rattle.words.specs.Serving.{Written, Steps}
use Rattle.words.specs.declared.{Sign.Sign, Sign.TheVariants.Plain, Sign.TheVariants.Plus, Sign.TheVariants.Minus, Number.Number}
use Rattle.words.specs.Values.{signed, decimals_fit, steps_of, places_of, units_of, length_of, is_length, dwell_of, is_dwell, count_of, checked}
use Rattle.words.proofs.Bounds.{tested}

-- ---- least steps

product_most : {d k : ℕ} → d < 1000000000 → k ≤ 4 → d * 10 ^ k < 10000000000000
product_most {d} {k} h l =
    let most : 10 ^ k ≤ 10 ^ 4 = pow-le-pow_right (omega arith) l in
    let few : d ≤ 999999999 = omega arith in
    omega (arith, mul-le-mul few most)

module _ (places : ℕ) (n : Number) (w : Written n) where
  pub steps_pointed :
      (p : ℕ) → places ≤ 4 → n.point ≡ true → p ≡ 10 ^ (places - n.decimals) → Steps places n (n.digits * p)
  unfolding steps_of
  steps_pointed p h e f =
      rw f (record { is = rw e; most = product_most w.digits (omega arith) })

  pub steps_whole : n.point ≡ false → Steps places n n.digits
  unfolding steps_of
  steps_whole e = record { is = rw e; most = omega arith }

-- ---- lengths

pub places_few : (u : Unit) → places_of u ≤ 4
unfolding places_of
places_few Millimetre = omega arith
places_few Inch = omega arith

units_few : (u : Unit) → units_of u ≤ 254
unfolding units_of
units_few Millimetre = omega arith
units_few Inch = omega arith

pub size_most : (u : Unit) (s x : ℕ) → s < 10000000000000 → x ≡ units_of u → s * x < 9223372036854775808
size_most u s x h e =
    let few : s ≤ 9999999999999 = omega arith in
    rw e (omega (arith, mul-le-mul few (units_few u)))

abs_signed : (sign : Sign) (m : ℕ) → nat_abs (signed sign m) ≡ m
unfolding signed
abs_signed Plain m = refl
abs_signed Plus m = refl
abs_signed Minus zero = refl
abs_signed Minus (suc m) = refl

module _ (u : Unit) (n : Number) where
  pub length_fine : places_of u < n.decimals → None ≡ checked (is_length u n) (length_of u n)
  unfolding is_length decimals_fit checked
  length_fine h = rw (lt-leb n.decimals (places_of u) h)

  pub length_is :
      (places s x : ℕ) (z : Len) → n.decimals ≤ places → places ≡ places_of u → Steps places n s → x ≡ units_of u
      → z ≡ len (signed n.sign (s * x))
      → checked (leb (s * x) 1000000000) z.v ≡ checked (is_length u n) (length_of u n)
  unfolding is_length decimals_fit length_of
  length_is places s x z h e t f g =
      let size = steps_of (places_of u) n * units_of u in
      rw (g, f, t.is, e) (rw (le-leb n.decimals (places_of u) (rw e at h), abs_signed n.sign size))

-- ---- a value with a further test

pub further_bad : (t more : Bool) (z : ℤ) (v : Option Len) → v ≡ checked t z → v ≡ None → v ≡ checked (t && more) z
unfolding checked
further_bad true more z v e f = let never : ◌≡◌ {A = ℕ} 0 1 = cc in absurd (omega arith)
further_bad false more z v e f = e

pub further :
    (more : ℤ → Bool) (t : Bool) (z : ℤ) (v : Option Len) (y : Len) → v ≡ checked t z → v ≡ Some y
    → checked (more y.v) y.v ≡ checked (t && more z) z
further more t z v y e f = let k = tested t z y (sym e ∙ f) in rw (k.passed, k.is)

-- ---- dwells, counts and speeds

module _ (n : Number) where
  pub dwell_fine : 3 < n.decimals → None ≡ checked (is_dwell n) (dwell_of n)
  unfolding is_dwell decimals_fit checked
  dwell_fine h = rw (lt-leb n.decimals 3 h)

  pub dwell_is :
      (s : ℕ) (z low high : Len) → n.decimals ≤ 3 → Steps 3 n s → z ≡ len (signed n.sign s)
      → low ≡ len (pos 0) → high ≡ len (pos 3600000)
      → checked (le_z low.v z.v && le_z z.v high.v) z.v ≡ checked (is_dwell n) (dwell_of n)
  unfolding is_dwell decimals_fit dwell_of
  dwell_is s z low high h t e f g = rw (e, f, g, t.is, le-leb n.decimals 3 h)

  pub count_is :
      (m : ℕ) (z o : Len) (t : Bool) → z ≡ len (signed n.sign n.digits) → o ≡ len (pos 0) → t ≡ lt_z z.v o.v
      → m ≡ (if t then 0 else min n.digits 9_999) → m ≡ count_of n
  unfolding count_of
  count_is m z o t e f g h = rw (h, g, e, f)

  pub count_most : count_of n ≤ 9_999
  unfolding count_of
  count_most = most (lt_z (signed n.sign n.digits) (pos 0))
    where
      most : (t : Bool) → (if t then 0 else min n.digits 9_999) ≤ 9_999
      most true = omega arith
      most false = omega arith
