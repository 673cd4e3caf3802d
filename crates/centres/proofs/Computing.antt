-- What the code of the centre asks of its numbers and what it makes of them. Assumes nothing.
use Rattle.terms.proofs.Common.{ℕ, ◌+◌, ◌-◌, ◌*◌, ◌/◌, ◌^◌, ◌≤◌, ◌<◌, ◌≡◌, refl, sym, ap, ◌∙◌, ◌≢◌, Bool, true, false, ◌&&◌, and-false, mul-le-mul, mul-le-mul_left, mul-le-mul_right, lt_of_mul-lt-mul_right, eq_of_mul-eq-mul_right, div-add-mod', div-le_of_le-mul, mod-lt, arith, digits_div, digits_mod, eqb, ℤ, pos, neg_ℤ, ◌-ℤ◌, nat_abs, le_z, lt-leb, eq-eqb, ne_eqb, eqb-true, eqb-false}
use Rattle.lengths.{specs.Units.sq, specs.declared.Flat.Flat, proofs.Laws.sq_near, proofs.Laws.near_sq}
use Rattle.arcs.{specs.Root.Root, specs.Root.root, specs.Turning.direction, specs.Arcs.distance², specs.Bounds.Reach, proofs.Root.root_is, proofs.Root.square_lt, proofs.Reach.near_distance}
use Rattle.wide.specs.declared.Division.{Division}
use Rattle.centres.specs.{Centres.radius_holds, Centres.across, Centres.spare, Centres.scaled_root, Bounds.Spanned, Bounds.Divisible, Bounds.Shares, Bounds.Part, Bounds.Parted}
use Rattle.centres.proofs.{Accepted.chord_some, Accepted.chord_most, Sides.across_first, Sides.across_second, Sides.as_long}
use native.Mathlib.Numerals.{add-one}

-- ---- whether a circle of the radius goes through start and end

module _ (r : ℤ) (s e : Flat) where
  pub small_refused : nat_abs r < 3_000 → radius_holds r s e ≡ false
  unfolding radius_holds
  small_refused h = rw (lt-leb 3_000 (nat_abs r) h)

  long_refused : 4 * sq r < distance² s e → radius_holds r s e ≡ false
  unfolding radius_holds
  long_refused h = rw (lt-leb (distance² s e) (4 * sq r) h, and-false)

  -- an end that is further than twice the radius on one axis
  pub first_refused : 2 * nat_abs r < nat_abs (e.first.v -ℤ s.first.v) → radius_holds r s e ≡ false
  unfolding distance²
  first_refused h = long_refused (omega (arith, mul-le-mul h h))

  pub second_refused : 2 * nat_abs r < nat_abs (e.second.v -ℤ s.second.v) → radius_holds r s e ≡ false
  unfolding distance²
  second_refused h = long_refused (omega (arith, mul-le-mul h h))

-- ---- the shares of n

module _ (q : ℤ) (n d : ℕ) (share : Division) (k : Shares q n d share) where
  shares_whole : share.quotient * d + share.rest ≡ sq q * n
  shares_whole = rw (k.whole, k.left) (div-add-mod' (sq q * n) d)

module _ (q : ℤ) (n d : ℕ) (h : Divisible q n d) where
  -- what the division asks: the product is at most d times n, so that its high word is below d
  pub divides : (high low : ℕ) → high * 2 ^ 64 + low ≡ sq q * n → (high < d) × (d ≤ 2 ^ 63)
  divides high low e =
      let g : high * 2 ^ 64 < d * 2 ^ 64 = omega (arith, h.some, mul-le-mul_right n h.part, mul-le-mul_left d h.spare) in
      (lt_of_mul-lt-mul_right (2 ^ 64) g, omega (arith, h.most))

  module _ (share : Division) (k : Shares q n d share) where
    pub share_most : share.quotient ≤ 4_000_000_000_000_000_000
    share_most = rw k.whole (omega (arith, h.spare, div-le_of_le-mul d (mul-le-mul_right n h.part)))

    pub share_part : Part n d share
    share_part =
        record {
          part = rw (shares_whole q n d share k) (omega (arith, mul-le-mul_right n h.part));
          below = rw k.left (mod-lt (sq q * n) h.some);
        }

module _ (n d : ℕ) (share : Division) (h : Part n d share) where
  pub part_most : share.quotient ≤ n
  part_most =
      let g : share.quotient < n + 1 = lt_of_mul-lt-mul_right d (omega (arith, h.part, h.below)) in
      omega (arith, g)

  pub part_less : share.rest ≢ 0 → share.quotient < n
  part_less f = lt_of_mul-lt-mul_right d (omega (arith, h.part, f))

  pub parted_exact : share.rest ≡ 0 → Parted n d share (record { quotient = n - share.quotient; rest = 0 })
  parted_exact e =
      let g : share.quotient + (n - share.quotient) ≡ n = omega (arith, part_most) in
      record { all = rw (g, e) (omega arith); below = omega (arith, h.below) }

  pub parted_rest : share.rest ≢ 0 → Parted n d share (record { quotient = n - share.quotient - 1; rest = d - share.rest })
  parted_rest f =
      let left = n - share.quotient - 1 in
      let g : share.quotient + left + 1 ≡ n = omega (arith, part_less f) in
      let e : (share.quotient + left + 1) * d ≡ n * d = ap (◌* d) g in
      record { all = omega (arith, e, h.below); below = omega (arith, f, h.below) }

-- the squares of p and q come to d, so what p leaves of n is the share of q
module _ (p q : ℤ) (n d : ℕ) (whole : sq p + sq q ≡ d) (share other : Division) (k : Shares p n d share) (h : Parted n d share other) where
  other_sum : other.quotient * d + other.rest ≡ sq q * n
  other_sum =
      let e : (sq p + sq q) * n ≡ d * n = ap (◌* n) whole in
      omega (arith, e, h.all, shares_whole p n d share k)

  pub other_shares : Shares q n d other
  other_shares =
      record {
        some = k.some;
        whole = rw (sym other_sum) (sym (digits_div other.quotient h.below));
        left = rw (sym other_sum) (sym (digits_mod other.quotient h.below));
      }

-- ---- q times the root of n / d

module _ (share : Division) (h : share.quotient ≤ 4_000_000_000_000_000_000) (m : ℕ) (is : m ≡ root share.quotient) where
  is_root : Root share.quotient m
  is_root = rw is (root_is share.quotient (omega (arith, h)))

  pub root_small : m ≤ 2_000_000_000
  root_small = omega (arith, square_lt m 2_000_000_001 (omega (arith, is_root.not_above, h)))

  module _ (q : ℤ) (n d : ℕ) (k : Shares q n d share) where
    -- the root is exact where the division leaves nothing and its quotient is the root's square
    exact : (eqb share.rest 0 && eqb (m * m) share.quotient) ≡ eqb (m * m * d) (sq q * n)
    exact = go (eqb share.rest 0) (eqb (m * m) share.quotient) refl refl
      where
        e : share.quotient * d + share.rest ≡ sq q * n
        e = shares_whole q n d share k

        go : (t u : Bool) → eqb share.rest 0 ≡ t → eqb (m * m) share.quotient ≡ u → (t && u) ≡ eqb (m * m * d) (sq q * n)
        go true true z f =
            let g : m * m * d ≡ share.quotient * d = ap (◌* d) (eqb-true (m * m) share.quotient f) in
            sym (eq-eqb (m * m * d) (sq q * n) (omega (arith, e, eqb-true share.rest 0 z)))
        go true false z f =
            let same : m * m * d ≡ sq q * n → m * m ≡ share.quotient =
            λ g. eq_of_mul-eq-mul_right d k.some (m * m) share.quotient (omega (arith, g, e, eqb-true share.rest 0 z)) in
            sym (ne_eqb (m * m * d) (sq q * n) (λ g. eqb-false (m * m) share.quotient f (same g)))
        go false u z f =
            let none : m * m * d ≡ sq q * n → share.rest ≡ 0 = λ g. omega (arith, g, e, mul-le-mul_right d is_root.not_above) in
            sym (ne_eqb (m * m * d) (sq q * n) (λ g. eqb-false share.rest 0 z (none g)))

    root_here : m ≡ root (sq q * n / d)
    root_here = is ∙ ap root k.whole

    pub root_up : le_z (pos 0) q ≡ true → pos m ≡ scaled_root q n d
    unfolding scaled_root
    root_up e = rw (e, root_here)

    pub root_exact : le_z (pos 0) q ≡ false → (eqb share.rest 0 && eqb (m * m) share.quotient) ≡ true → neg_ℤ (pos m) ≡ scaled_root q n d
    unfolding scaled_root
    root_exact e t = rw (e, ← root_here, ← exact, t)

    pub root_down : le_z (pos 0) q ≡ false → (eqb share.rest 0 && eqb (m * m) share.quotient) ≡ false → neg_ℤ (pos (m + 1)) ≡ scaled_root q n d
    unfolding scaled_root
    root_down e t = rw (e, ← root_here, ← exact, t, add-one)

-- ---- an arc whose radius has been accepted

-- both coordinates of q have a share of n
pub record Split (q : Flat) (n d : ℕ) : Type 0 where
  pub first : Divisible q.first.v n d
  pub second : Divisible q.second.v n d
  pub whole : sq q.first.v + sq q.second.v ≡ d

module _ (r : ℤ) (s e : Flat) (h : Spanned r s e) where
  pub radius_most : 4 * sq r ≤ 4_000_000_000_000_000_000
  radius_most = omega (arith, sq_near r h.chord.radius)

  pub chord_reach : Reach 3_000_000_000 s e
  chord_reach =
      let k = near_distance {n = 2_000_000_000} s e (omega (arith, chord_most r s e h.holds, radius_most)) in
      omega (arith, k)

  divisible : (q : ℤ) → sq q ≤ distance² s e → Divisible q (spare r s e) (distance² s e)
  unfolding spare
  divisible q k =
      let most : distance² s e ≤ 4_000_000_000_000_000_000 = omega (arith, chord_most r s e h.holds, radius_most) in
      record {
        some = chord_some r s e h.holds;
        part = k;
        most = most;
        spare = omega (arith, radius_most);
        near = near_sq q (omega arith);
      }

  pub chord_split :
      (left : Bool) (q : Flat) (n d : ℕ)
      → q ≡ across left (direction s e) → n ≡ spare r s e → d ≡ distance² s e → Split q n d
  chord_split left q n d qs ns ds =
      let x = across left (direction s e) in
      rw (qs, ns, ds)
      (record {
        first = divisible x.first.v (omega (arith, across_first left s e));
        second = divisible x.second.v (omega (arith, across_second left s e));
        whole = as_long left s e;
      })
