-- Laws of signed numbers in the view of two naturals (specs/View.antt). Assumes nothing.
use Rattle.terms.proofs.Common.{ℕ, zero, suc, ◌+◌, ◌-◌, ◌*◌, ◌≤◌, ◌<◌, ◌≡◌, refl, ap, ◌∙◌, Bool, true, false, cond, mul-le-mul, arith, dec_le, T, ltb, ℤ, pos, negsuc, neg_ℤ, sub_ℕ, ◌+ℤ◌, ◌-ℤ◌, ◌*ℤ◌, nat_abs, le_z, lt_z, non_neg, ltb-true, ltb-false, leb-true, leb-false, lt-ltb, le-ltb, le-leb, lt-leb}
use mir.{Syntax.w64, Val.Fits, Val.SFits, Val.to_z, Val.of_z, Facts.to_z-of_z}
use Rattle.lengths.specs.{declared.Len.Len, Units.sq, Units.halved, View.over, View.under, View.Within, Serving.Room}

-- ---- the balance of each operation

-- the difference of two naturals, by the test that it makes
abbrev by_test : Bool → ℕ → ℕ → ℤ
by_test t a b = cond t (negsuc (b - suc a)) (pos (a - b))

test_bal : (t : Bool) (a b : ℕ) → ltb a b ≡ t → over (by_test t a b) + b ≡ under (by_test t a b) + a
test_bal true a b e = omega (arith, ltb-true)
test_bal false a b e = omega (arith, ltb-false)

sub_bal : (a b : ℕ) → over (sub_ℕ a b) + b ≡ under (sub_ℕ a b) + a
sub_bal a b = test_bal (ltb a b) a b refl

pub sum_bal : (a b : ℤ) → over (a +ℤ b) + (under a + under b) ≡ under (a +ℤ b) + (over a + over b)
sum_bal (pos a) (pos b) = omega arith
sum_bal (pos a) (negsuc b) = omega (arith, sub_bal a (suc b))
sum_bal (negsuc a) (pos b) = omega (arith, sub_bal b (suc a))
sum_bal (negsuc a) (negsuc b) = omega arith

pub neg_over : (a : ℤ) → over (neg_ℤ a) ≡ under a
neg_over (pos zero) = refl
neg_over (pos (suc n)) = refl
neg_over (negsuc n) = refl

pub neg_under : (a : ℤ) → under (neg_ℤ a) ≡ over a
neg_under (pos zero) = refl
neg_under (pos (suc n)) = refl
neg_under (negsuc n) = refl

pub diff_bal : (a b : ℤ) → over (a -ℤ b) + (under a + over b) ≡ under (a -ℤ b) + (over a + under b)
diff_bal a b = omega (arith, sum_bal a (neg_ℤ b), neg_over b, neg_under b)

pub mul_bal : (a b : ℤ) → over (a *ℤ b) + (over a * under b + under a * over b) ≡ under (a *ℤ b) + (over a * over b + under a * under b)
mul_bal (pos a) (pos b) = omega arith
mul_bal (pos a) (negsuc b) = omega (arith, neg_over (pos (a * suc b)), neg_under (pos (a * suc b)))
mul_bal (negsuc a) (pos b) = omega (arith, neg_over (pos (suc a * b)), neg_under (pos (suc a * b)))
mul_bal (negsuc a) (negsuc b) = omega arith

-- ---- orders and equations of signed numbers as such facts: `-view` reads a fact, `view-` proves a goal

pub le_view : (a b : ℤ) → le_z a b ≡ true → over a + under b ≤ over b + under a
le_view (pos a) (pos b) e = omega (arith, leb-true)
le_view (pos a) (negsuc b) e = let z : ◌≡◌ {A = ℕ} 0 1 = cc in omega arith
le_view (negsuc a) (pos b) e = omega arith
le_view (negsuc a) (negsuc b) e = omega (arith, leb-true)

pub gt_view : (a b : ℤ) → le_z a b ≡ false → over b + under a < over a + under b
gt_view (pos a) (pos b) e = omega (arith, leb-false)
gt_view (pos a) (negsuc b) e = omega arith
gt_view (negsuc a) (pos b) e = let z : ◌≡◌ {A = ℕ} 0 1 = cc in omega arith
gt_view (negsuc a) (negsuc b) e = omega (arith, leb-false)

pub lt_view : (a b : ℤ) → lt_z a b ≡ true → over a + under b < over b + under a
lt_view (pos a) (pos b) e = omega (arith, ltb-true)
lt_view (pos a) (negsuc b) e = let z : ◌≡◌ {A = ℕ} 0 1 = cc in omega arith
lt_view (negsuc a) (pos b) e = omega arith
lt_view (negsuc a) (negsuc b) e = omega (arith, ltb-true)

pub ge_view : (a b : ℤ) → lt_z a b ≡ false → over b + under a ≤ over a + under b
ge_view (pos a) (pos b) e = omega (arith, ltb-false)
ge_view (pos a) (negsuc b) e = omega arith
ge_view (negsuc a) (pos b) e = let z : ◌≡◌ {A = ℕ} 0 1 = cc in omega arith
ge_view (negsuc a) (negsuc b) e = omega (arith, ltb-false)

pub eq_view : (a b : ℤ) → a ≡ b → over a + under b ≡ over b + under a
eq_view a b e = rw e

pub len_view : (a b : Len) → a ≡ b → over a.v + under b.v ≡ over b.v + under a.v
len_view a b e = rw e

pub view_le : (a b : ℤ) → over a + under b ≤ over b + under a → le_z a b ≡ true
view_le (pos a) (pos b) h = le-leb a b (omega arith)
view_le (pos a) (negsuc b) h = absurd (omega arith)
view_le (negsuc a) (pos b) h = refl
view_le (negsuc a) (negsuc b) h = le-leb b a (omega arith)

pub view_gt : (a b : ℤ) → over b + under a < over a + under b → le_z a b ≡ false
view_gt (pos a) (pos b) h = lt-leb a b (omega arith)
view_gt (pos a) (negsuc b) h = refl
view_gt (negsuc a) (pos b) h = absurd (omega arith)
view_gt (negsuc a) (negsuc b) h = lt-leb b a (omega arith)

pub view_lt : (a b : ℤ) → over a + under b < over b + under a → lt_z a b ≡ true
view_lt (pos a) (pos b) h = lt-ltb a b (omega arith)
view_lt (pos a) (negsuc b) h = absurd (omega arith)
view_lt (negsuc a) (pos b) h = refl
view_lt (negsuc a) (negsuc b) h = lt-ltb b a (omega arith)

pub view_ge : (a b : ℤ) → over b + under a ≤ over a + under b → lt_z a b ≡ false
view_ge (pos a) (pos b) h = le-ltb a b (omega arith)
view_ge (pos a) (negsuc b) h = refl
view_ge (negsuc a) (pos b) h = absurd (omega arith)
view_ge (negsuc a) (negsuc b) h = le-ltb b a (omega arith)

pub view_eq : (a b : ℤ) → over a + under b ≡ over b + under a → a ≡ b
view_eq (pos a) (pos b) h = ap pos (omega arith)
view_eq (pos a) (negsuc b) h = absurd (omega arith)
view_eq (negsuc a) (pos b) h = absurd (omega arith)
view_eq (negsuc a) (negsuc b) h = ap negsuc (omega arith)

pub view_len : (a b : Len) → over a.v + under b.v ≡ over b.v + under a.v → a ≡ b
view_len a b h = rw (view_eq a.v b.v h)

pub ruleset view = (le_view, gt_view, lt_view, ge_view, eq_view, len_view, view_le, view_gt, view_lt, view_ge, view_eq, view_len)

-- how `view` is used: one line, with the balance of each sum that stands in the goal or in a fact
pub le_shift : (a b d : ℤ) → le_z a b ≡ true → le_z (a +ℤ d) (b +ℤ d) ≡ true
le_shift a b d h = omega (arith, view, sum_bal a d, sum_bal b d)

-- half of a number rounded down: twice that is the number or one below it
pub halved_over : (z : ℤ) → over (halved z) + over (halved z) + under z ≤ under (halved z) + under (halved z) + over z
unfolding halved
halved_over (pos n) = omega arith
halved_over (negsuc n) = omega arith

pub halved_under : (z : ℤ) → under (halved z) + under (halved z) + over z ≤ over (halved z) + over (halved z) + under z + 1
unfolding halved
halved_under (pos n) = omega arith
halved_under (negsuc n) = omega arith

-- ---- distances from 0

pub abs_sum : (z : ℤ) → nat_abs z ≡ (over z - under z) + (under z - over z)
abs_sum (pos n) = omega arith
abs_sum (negsuc n) = omega arith

pub near_abs : {n : ℕ} (z : ℤ) → Within n z → nat_abs z ≤ n
near_abs z h = omega (arith, abs_sum z)

pub abs_near : {n : ℕ} (z : ℤ) → nat_abs z ≤ n → Within n z
abs_near z h = omega (arith, abs_sum z)

abs_neg : (z : ℤ) → nat_abs (neg_ℤ z) ≡ nat_abs z
abs_neg z = omega (arith, abs_sum z, abs_sum (neg_ℤ z), neg_over z, neg_under z)

pub abs_mul : (a b : ℤ) → nat_abs (a *ℤ b) ≡ nat_abs a * nat_abs b
abs_mul (pos a) (pos b) = refl
abs_mul (pos a) (negsuc b) = abs_neg (pos (a * suc b))
abs_mul (negsuc a) (pos b) = abs_neg (pos (suc a * b))
abs_mul (negsuc a) (negsuc b) = refl

pub mul_near : {m n : ℕ} {a b : ℤ} → Within m a → Within n b → Within (m * n) (a *ℤ b)
mul_near {m} {n} {a} {b} h k = abs_near (a *ℤ b) (rw (abs_mul a b) (mul-le-mul (near_abs a h) (near_abs b k)))

-- ---- squares

-- a number and its negation have one square, which is the product of either with itself
pub sq_neg : (z : ℤ) → sq (neg_ℤ z) ≡ sq z
sq_neg z = rw (abs_neg z)

pub sq_mul : (z : ℤ) → pos (sq z) ≡ z *ℤ z
sq_mul (pos n) = refl
sq_mul (negsuc n) = refl

pub sq_near : {n : ℕ} (z : ℤ) → Within n z → sq z ≤ n * n
sq_near z h = mul-le-mul (near_abs z h) (near_abs z h)

pub near_sq : {n : ℕ} (z : ℤ) → sq z ≤ n * n → Within n z
near_sq {n} z h = abs_near z (by (dec_le (nat_abs z) n))
  where
    by : Dec (nat_abs z ≤ n) → nat_abs z ≤ n
    by (yes k) = k
    by (no k) =
        let g : suc n ≤ nat_abs z = omega arith in
        omega (arith, mul-le-mul g g)

-- ---- what the machine computes

-- a difference with room in 64 bits is a number that the machine holds
pub room_fits : (z : ℤ) → Room (over z) (under z) → SFits w64 z
room_fits (pos n) h = record { sfits = omega arith }
room_fits (negsuc n) h = record { sfits = omega arith }

pub fits_room : (z : ℤ) → SFits w64 z → Room (over z) (under z)
fits_room (pos n) h = omega (arith, h.sfits)
fits_room (negsuc n) h = omega (arith, h.sfits)

module _ (f : ℤ → ℤ → ℤ) (a b : ℤ) (fa : SFits w64 a) (fb : SFits w64 b) (h : SFits w64 (f a b)) where
  -- the operation f of two numbers that the machine holds, where the answer is one too: what it asks
  pub asks : SFits w64 (f (to_z w64 (of_z w64 a)) (to_z w64 (of_z w64 b)))
  asks = rw (to_z-of_z fa, to_z-of_z fb) h

  -- and what it gives
  pub gives : to_z w64 (of_z w64 (f (to_z w64 (of_z w64 a)) (to_z w64 (of_z w64 b)))) ≡ f a b
  gives = to_z-of_z asks ∙ rw (to_z-of_z fa, to_z-of_z fb)

-- a number that is not below 0, cast to one without a sign
pub cast_asks : (z : ℤ) → under z ≤ over z → SFits w64 z → T (non_neg z) × Fits w64 (nat_abs z)
cast_asks (pos n) h f = (tt, omega (arith, f.sfits))
cast_asks (negsuc n) h f = absurd (omega arith)

pub cast_gives : (z : ℤ) → under z ≤ over z → nat_abs z + under z ≡ over z
cast_gives z h = omega (arith, abs_sum z, one_side z)
  where
    one_side : (z : ℤ) → under z - over z ≡ under z
    one_side (pos n) = omega arith
    one_side (negsuc n) = omega arith
