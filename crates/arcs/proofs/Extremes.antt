-- The tests of an extreme by squares are exact: they are the comparisons with the real root. Assumes nothing.
use Rattle.terms.proofs.Common.{ℕ, ◌+◌, ◌-◌, ◌*◌, ◌≤◌, ◌<◌, ◌≡◌, refl, ap, Bool, true, false, or-true, mul-le-mul_right, dec_le, arith, leb, pos, ◌+ℤ◌, ◌-ℤ◌, ◌*ℤ◌, nat_abs, le_z, leb-true, le-leb}
use Rattle.terms.proofs.Laws.{both_left, both_right}
use Rattle.lengths.specs.{declared.Len.Len, View.over, View.under}
use Rattle.lengths.proofs.{Laws.view, Laws.diff_bal, Laws.abs_sum, Ring.var, Ring.◌⊞◌, Ring.◌⊠◌, Ring.most}
use Rattle.arcs.specs.{Arcs.not_above, Arcs.not_below, Exact.RootBetween, Exact.RootReaches}
use Rattle.arcs.proofs.Root.{square_lt}

-- a number whose square is at most another's is at most it
pub square_le : (p k : ℕ) → p * p ≤ k * k → p ≤ k
square_le p k h = omega (arith, square_lt p (k + 1) (omega arith))

-- where m * m is below q, a fraction above m is at most the root of q
passes : (m q : ℕ) → m * m < q → (m * (2 * m + 1) + 1) * (m * (2 * m + 1) + 1) ≤ q * ((2 * m + 1) * (2 * m + 1))
passes m q h = omega (arith, mul-le-mul_right ((2 * m + 1) * (2 * m + 1)) h)

-- where q is below m * m, a fraction below m is at least the root of q; p is the numerator over 2 m
falls_short : (m q p : ℕ) → q < m * m → p + 1 ≡ m * (2 * m) → q * (2 * m * (2 * m)) ≤ p * p
falls_short m q p h e = omega (arith, mul-le-mul_right (2 * m * (2 * m)) h, ap (λ (x : ℕ). x * x) e)

module _ (a b : Len) (q : ℕ) where
  gap : ℕ
  gap = nat_abs (b.v -ℤ a.v)

  gap_is : le_z a.v b.v ≡ true → gap + over a.v + under b.v ≡ over b.v + under a.v
  unfolding gap
  gap_is e = omega (arith, view, abs_sum (b.v -ℤ a.v), diff_bal b.v a.v)

  -- b is at most the gap above a, whichever of the two is the larger
  gap_spans : over b.v + under a.v ≤ gap + over a.v + under b.v
  unfolding gap
  gap_spans = omega (arith, abs_sum (b.v -ℤ a.v), diff_bal b.v a.v)

  pub above_exact : not_above a q b ≡ true → RootBetween a q b
  unfolding not_above gap
  above_exact e p n h =
      let m = gap in
      let l = leb-true q (m * m) (both_right (le_z a.v b.v) (leb q (m * m)) e) in
      let g = gap_is (both_left (le_z a.v b.v) (leb q (m * m)) e) in
      let k = square_le p (m * n) (omega (arith, mul-le-mul_right (n * n) l)) in
      most
      (var (pos n) ⊠ var a.v ⊞ var (pos p))
      (var (pos n) ⊠ var b.v)
      (omega (arith, k, ap (λ (x : ℕ). n * x) g))

  pub exact_above : RootBetween a q b → not_above a q b ≡ true
  unfolding not_above gap
  exact_above f = rw (e, l (dec_le q (gap * gap)))
    where
      e : le_z a.v b.v ≡ true
      e =
          let l = var (pos 1) ⊠ var a.v ⊞ var (pos 0) in
          let h = var (pos 1) ⊠ var b.v in
          omega (arith, view, f 0 1 (omega arith), l.bal, h.bal)

      l : Dec (q ≤ gap * gap) → leb q (gap * gap) ≡ true
      l (yes k) = le-leb q (gap * gap) k
      l (no k) =
          let n = 2 * gap + 1 in
          let p = gap * n + 1 in
          let z = f p n (passes gap q (omega (arith, k))) in
          absurd
          (omega (
            arith,
            view,
            z,
            ap (λ (x : ℕ). n * x) (gap_is e),
            (var (pos n) ⊠ var a.v ⊞ var (pos p)).bal,
            (var (pos n) ⊠ var b.v).bal,
          ))

  pub below_exact : not_below a q b ≡ true → RootReaches a q b
  unfolding not_below gap
  below_exact e p n h = go (le_z b.v a.v) refl
    where
      go : (t : Bool) → le_z b.v a.v ≡ t → le_z (pos n *ℤ b.v) (pos n *ℤ a.v +ℤ pos p) ≡ true
      go true f =
          let g : over b.v + under a.v ≤ over a.v + under b.v = omega (arith, view, f) in
          most
          (var (pos n) ⊠ var b.v)
          (var (pos n) ⊠ var a.v ⊞ var (pos p))
          (omega (arith, mul-le-mul_right n g))
      go false f =
          let m = gap in
          let l = leb-true (m * m) q (rw f at e) in
          let k = square_le (m * n) p (omega (arith, mul-le-mul_right (n * n) l)) in
          most
          (var (pos n) ⊠ var b.v)
          (var (pos n) ⊠ var a.v ⊞ var (pos p))
          (omega (arith, k, mul-le-mul_right n gap_spans))

  pub exact_below : RootReaches a q b → not_below a q b ≡ true
  unfolding not_below gap
  exact_below f = go (le_z b.v a.v) refl (dec_le (gap * gap) q)
    where
      go : (t : Bool) → le_z b.v a.v ≡ t → Dec (gap * gap ≤ q) → not_below a q b ≡ true
      go true e k = rw e
      go false e (yes k) = rw (le-leb (gap * gap) q k) (or-true (le_z b.v a.v))
      go false e (no k) =
          let n = 2 * gap in
          let p = gap * n - 1 in
          let above : le_z a.v b.v ≡ true = omega (arith, view, e) in
          let z = f p n (falls_short gap q p (omega (arith, k)) (omega (arith, k))) in
          absurd
          (omega (
            arith,
            view,
            z,
            k,
            ap (λ (x : ℕ). n * x) (gap_is above),
            (var (pos n) ⊠ var a.v ⊞ var (pos p)).bal,
            (var (pos n) ⊠ var b.v).bal,
          ))
