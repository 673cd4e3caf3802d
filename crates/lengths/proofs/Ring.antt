-- Equations and orders of sums and products of signed numbers, in one line each. A `Form z` is z written as a difference of two
-- naturals, `ups` − `downs`, made of the naturals of z's variables. It is put together as z is: `var` at a variable or a literal,
-- `◌⊞◌`, `◌⊟◌`, `◌⊠◌`, `neg`. Two forms are then compared in naturals, where `omega` multiplies out. Assumes nothing.
use Rattle.terms.proofs.Common.{ℕ, ◌+◌, ◌*◌, ◌≤◌, ◌<◌, ◌≡◌, ap, true, arith, ℤ, pos, neg_ℤ, ◌+ℤ◌, ◌-ℤ◌, ◌*ℤ◌, le_z, lt_z}
use Rattle.lengths.specs.View.{over, under}
use Rattle.lengths.proofs.Laws.{view, sum_bal, diff_bal, mul_bal, neg_over, neg_under}

pub record Form (z : ℤ) : Type 0 where
  pub ups : ℕ
  pub downs : ℕ
  pub bal : over z + downs ≡ under z + ups

abbrev pub var : (z : ℤ) → Form z
var z = record { ups = over z; downs = under z; bal = omega arith }

infixl 6 ◌⊞◌
abbrev pub ◌⊞◌ : {y z : ℤ} → Form y → Form z → Form (y +ℤ z)
◌⊞◌ {y} {z} f g = record { ups = f.ups + g.ups; downs = f.downs + g.downs; bal = omega (arith, f.bal, g.bal, sum_bal y z) }

infixl 6 ◌⊟◌
abbrev pub ◌⊟◌ : {y z : ℤ} → Form y → Form z → Form (y -ℤ z)
◌⊟◌ {y} {z} f g = record { ups = f.ups + g.downs; downs = f.downs + g.ups; bal = omega (arith, f.bal, g.bal, diff_bal y z) }

abbrev pub neg : {z : ℤ} → Form z → Form (neg_ℤ z)
neg {z} f = record { ups = f.downs; downs = f.ups; bal = omega (arith, f.bal, neg_over z, neg_under z) }

-- two differences of naturals that are the same two numbers have the same product
pub cross : (a b c d p q r s : ℕ) → a + q ≡ b + p → c + s ≡ d + r → a * c + b * d + (p * s + q * r) ≡ a * d + b * c + (p * r + q * s)
cross a b c d p q r s e f =
    omega (arith, ap (λ (x : ℕ). x * c) e, ap (λ (x : ℕ). x * d) e, ap (λ (x : ℕ). p * x) f, ap (λ (x : ℕ). q * x) f)

infixl 7 ◌⊠◌
abbrev pub ◌⊠◌ : {y z : ℤ} → Form y → Form z → Form (y *ℤ z)
◌⊠◌ {y} {z} f g =
    let e = cross (over y) (under y) (over z) (under z) f.ups f.downs g.ups g.downs f.bal g.bal in
    record { ups = f.ups * g.ups + f.downs * g.downs; downs = f.ups * g.downs + f.downs * g.ups; bal = omega (arith, mul_bal y z, e) }

module _ {y z : ℤ} (f : Form y) (g : Form z) where
  pub same : f.ups + g.downs ≡ g.ups + f.downs → y ≡ z
  same h = omega (arith, view, f.bal, g.bal)

  pub most : f.ups + g.downs ≤ g.ups + f.downs → le_z y z ≡ true
  most h = omega (arith, view, f.bal, g.bal)

  pub less : f.ups + g.downs < g.ups + f.downs → lt_z y z ≡ true
  less h = omega (arith, view, f.bal, g.bal)

-- how they are used: a goal by two forms; a fact by the balance of the forms that stand in it
pub shift : (a b d : ℤ) → (a +ℤ d) -ℤ (b +ℤ d) ≡ a -ℤ b
shift a b d = same ((var a ⊞ var d) ⊟ (var b ⊞ var d)) (var a ⊟ var b) (omega arith)

pub turned : (a b : ℤ) → lt_z (a *ℤ b) (pos 0) ≡ true → lt_z (pos 0) (a *ℤ neg_ℤ b) ≡ true
turned a b h = omega (arith, view, (var a ⊠ var b).bal, (var a ⊠ neg (var b)).bal)
