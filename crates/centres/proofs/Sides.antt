-- The way across from the chord (`across`): at right angles to it and as long. Then on which side of the chord the exact centre lies
-- and what that has to do with half a turn, and the chord of twice the radius, whose middle is the centre. Assumes nothing.
use Rattle.terms.proofs.Common.{ℕ, ◌+◌, ◌*◌, ◌<◌, ◌≡◌, ap, ◌∙◌, Bool, true, false, mul-le-mul, arith, ℤ, pos, neg_ℤ, ◌+ℤ◌, ◌-ℤ◌, ◌*ℤ◌, lt_z, lt-ltb}
use Rattle.lengths.specs.{Units.sq, Units.halved, declared.Flat.Flat}
use Rattle.lengths.proofs.{Laws.view, Laws.sq_neg, Laws.sq_mul, Laws.halved_over, Laws.halved_under, Ring.var, Ring.◌⊞◌, Ring.◌⊟◌, Ring.◌⊠◌, Ring.neg, Ring.same}
use Rattle.arcs.specs.{Arcs.distance², Turning.direction, Turning.cross, Turning.dot, Turning.left}
use Rattle.centres.specs.{Centres.radius_holds, Centres.across, Centres.spare, Centres.RoundedDown, Centres.Centre, Sides.times, Sides.across_at}
use Rattle.centres.proofs.{Accepted.chord_some, Accepted.chord_spare, SignedSquares.square_bal, SignedSquares.less_square, SignedSquares.most_square}

-- ---- at right angles and as long

-- turned to the one side or to the other, the products of the two axes cancel
cancels : (a b : ℤ) → (a *ℤ neg_ℤ b +ℤ b *ℤ a ≡ pos 0) × (a *ℤ b +ℤ b *ℤ neg_ℤ a ≡ pos 0)
cancels a b = (
  same (var a ⊠ neg (var b) ⊞ var b ⊠ var a) (var (pos 0)) (omega arith),
  same (var a ⊠ var b ⊞ var b ⊠ neg (var a)) (var (pos 0)) (omega arith),
)

-- the way across is at right angles to the way from start to end, and to the way back
pub perpendicular : (side : Bool) (d : Flat) → dot d (across side d) ≡ pos 0
unfolding across dot
perpendicular true d = omega (arith, view, cancels d.first.v d.second.v)
perpendicular false d = omega (arith, view, cancels d.first.v d.second.v)

dot_back : (s e q : Flat) → dot (direction e s) q ≡ neg_ℤ (dot (direction s e) q)
unfolding dot direction
dot_back s e q =
    let a = var s.first.v in
    let b = var s.second.v in
    let c = var e.first.v in
    let d = var e.second.v in
    let x = var q.first.v in
    let y = var q.second.v in
    same ((a ⊟ c) ⊠ x ⊞ (b ⊟ d) ⊠ y) (neg ((c ⊟ a) ⊠ x ⊞ (d ⊟ b) ⊠ y)) (omega arith)

pub perpendicular_back : (side : Bool) (s e : Flat) → dot (direction e s) (across side (direction s e)) ≡ pos 0
perpendicular_back side s e = dot_back s e (across side (direction s e)) ∙ ap neg_ℤ (perpendicular side (direction s e))

-- it has on one axis what the way has on the other, so its square there is what that axis lacks of the chord's
pub across_first : (side : Bool) (s e : Flat) → sq (across side (direction s e)).first.v + sq (e.first.v -ℤ s.first.v) ≡ distance² s e
unfolding across direction distance²
across_first true s e = omega (arith, sq_neg (e.second.v -ℤ s.second.v))
across_first false s e = omega (arith, sq_neg (e.second.v -ℤ s.second.v))

pub across_second : (side : Bool) (s e : Flat) → sq (across side (direction s e)).second.v + sq (e.second.v -ℤ s.second.v) ≡ distance² s e
unfolding across direction distance²
across_second true s e = omega (arith, sq_neg (e.first.v -ℤ s.first.v))
across_second false s e = omega (arith, sq_neg (e.first.v -ℤ s.first.v))

-- so it is as long as the chord
pub as_long :
    (side : Bool) (s e : Flat)
    → sq (across side (direction s e)).first.v + sq (across side (direction s e)).second.v ≡ distance² s e
unfolding distance²
as_long side s e = omega (arith, across_first side s e, across_second side s e)

-- ---- to the left, or to the right

-- the way across is a quarter of a turn on from the way d to the left, or d from the way across
pub cross_left : (d : Flat) → cross d (across true d) ≡ pos (sq d.first.v + sq d.second.v)
unfolding across cross
cross_left d =
    let a = d.first.v in
    let b = d.second.v in
    same (var a ⊠ var a ⊟ var b ⊠ neg (var b)) (var (pos (sq a + sq b)))
    (omega (arith, view, sq_mul a, sq_mul b, (var a ⊠ var a).bal, (var b ⊠ var b).bal))

pub cross_right : (d : Flat) → cross (across false d) d ≡ pos (sq d.first.v + sq d.second.v)
unfolding across cross
cross_right d =
    let a = d.first.v in
    let b = d.second.v in
    same (var b ⊠ var b ⊟ neg (var a) ⊠ var a) (var (pos (sq a + sq b)))
    (omega (arith, view, sq_mul a, sq_mul b, (var a ⊠ var a).bal, (var b ⊠ var b).bal))

module _ (s e : Flat) (differ : 0 < distance² s e) where
  pub across_left : left (direction s e) (across true (direction s e)) ≡ true
  unfolding left direction distance²
  across_left = rw (cross_left (direction s e)) (lt-ltb 0 (distance² s e) differ)

  pub across_right : left (across false (direction s e)) (direction s e) ≡ true
  unfolding left direction distance²
  across_right = rw (cross_right (direction s e)) (lt-ltb 0 (distance² s e) differ)

-- Why a centre on the left is that of a left turn of at most half a turn, and one on the right that of such a right turn: seen from
-- any point c the end lies to the left of the start, less than half a turn on, exactly where c lies to the left of the way from
-- start to end. So turning left, G03, about a centre on the left is the shorter way, and about one on the right the longer;
-- turning right, G02, it is the other way round. About the chord's middle both are half a turn.
pub seen_from : (c s e : Flat) → cross (direction c s) (direction c e) ≡ cross (direction s e) (direction s c)
unfolding cross direction
seen_from c s e =
    let a = var c.first.v in
    let b = var c.second.v in
    let f = var s.first.v in
    let g = var s.second.v in
    let h = var e.first.v in
    let i = var e.second.v in
    same ((f ⊟ a) ⊠ (i ⊟ b) ⊟ (g ⊟ b) ⊠ (h ⊟ a)) ((h ⊟ f) ⊠ (b ⊟ g) ⊟ (i ⊟ g) ⊠ (a ⊟ f)) (omega arith)

pub left_seen : (c s e : Flat) → left (direction c s) (direction c e) ≡ left (direction s e) (direction s c)
unfolding left
left_seen c s e = ap (λ z. lt_z (pos 0) z) (seen_from c s e)

-- ---- The same of the points straight across from the chord's middle: whatever the fraction, seen from a point on the left the end
-- lies to the left of the start, and seen from a point on the right the start lies to the left of the end.

-- one coordinate of the way from such a point to the start, and to the end
to_start :
    (n f : ℕ) (s e q : ℤ) → pos (2 * n) *ℤ s -ℤ (pos n *ℤ (s +ℤ e) +ℤ pos f *ℤ q) ≡ neg_ℤ (pos n *ℤ (e -ℤ s)) -ℤ pos f *ℤ q
to_start n f s e q =
    let x = var (pos n) ⊠ (var s ⊞ var e) ⊞ var (pos f) ⊠ var q in
    same (var (pos (2 * n)) ⊠ var s ⊟ x) (neg (var (pos n) ⊠ (var e ⊟ var s)) ⊟ var (pos f) ⊠ var q) (omega arith)

to_end : (n f : ℕ) (s e q : ℤ) → pos (2 * n) *ℤ e -ℤ (pos n *ℤ (s +ℤ e) +ℤ pos f *ℤ q) ≡ pos n *ℤ (e -ℤ s) -ℤ pos f *ℤ q
to_end n f s e q =
    let x = var (pos n) ⊠ (var s ⊞ var e) ⊞ var (pos f) ⊠ var q in
    same (var (pos (2 * n)) ⊠ var e ⊟ x) (var (pos n) ⊠ (var e ⊟ var s) ⊟ var (pos f) ⊠ var q) (omega arith)

-- the product of the two ways, and the factors n and f drawn out of it
between : (a b c d : ℤ) → (neg_ℤ a -ℤ c) *ℤ (b -ℤ d) -ℤ (neg_ℤ b -ℤ d) *ℤ (a -ℤ c) ≡ pos 2 *ℤ (a *ℤ d -ℤ b *ℤ c)
between a b c d =
    same
    ((neg (var a) ⊟ var c) ⊠ (var b ⊟ var d) ⊟ (neg (var b) ⊟ var d) ⊠ (var a ⊟ var c))
    (var (pos 2) ⊠ (var a ⊠ var d ⊟ var b ⊠ var c))
    (omega arith)

one_factor : (n f : ℕ) (a d : ℤ) → pos n *ℤ a *ℤ (pos f *ℤ d) ≡ pos (n * f) *ℤ (a *ℤ d)
one_factor n f a d = same (var (pos n) ⊠ var a ⊠ (var (pos f) ⊠ var d)) (var (pos (n * f)) ⊠ (var a ⊠ var d)) (omega arith)

drawn : (k : ℕ) (x y : ℤ) → pos 2 *ℤ (pos k *ℤ x -ℤ pos k *ℤ y) ≡ pos (2 * k) *ℤ (x -ℤ y)
drawn k x y =
    same (var (pos 2) ⊠ (var (pos k) ⊠ var x ⊟ var (pos k) ⊠ var y)) (var (pos (2 * k)) ⊠ (var x ⊟ var y)) (omega arith)

pub seen_across :
    (side : Bool) (f n : ℕ) (s e : Flat)
    → let x = across_at side f n s e in
    let d = direction s e in
    cross (direction x (times (2 * n) s)) (direction x (times (2 * n) e)) ≡ pos (2 * (n * f)) *ℤ cross d (across side d)
unfolding cross direction times across_at
seen_across side f n s e =
    let a = e.first.v -ℤ s.first.v in
    let b = e.second.v -ℤ s.second.v in
    let c = (across side (direction s e)).first.v in
    let d = (across side (direction s e)).second.v in
    rw (
      to_start n f s.first.v e.first.v c,
      to_start n f s.second.v e.second.v d,
      to_end n f s.first.v e.first.v c,
      to_end n f s.second.v e.second.v d,
      between (pos n *ℤ a) (pos n *ℤ b) (pos f *ℤ c) (pos f *ℤ d),
      one_factor n f a d,
      one_factor n f b c,
      drawn (n * f) (a *ℤ d) (b *ℤ c),
    )

cross_back : (a b : Flat) → cross a b ≡ neg_ℤ (cross b a)
unfolding cross
cross_back a b =
    let p = var a.first.v in
    let q = var a.second.v in
    let x = var b.first.v in
    let y = var b.second.v in
    same (p ⊠ y ⊟ q ⊠ x) (neg (x ⊠ q ⊟ y ⊠ p)) (omega arith)

product_back : (k : ℕ) (z : ℤ) → neg_ℤ (pos k *ℤ neg_ℤ z) ≡ pos k *ℤ z
product_back k z = same (neg (var (pos k) ⊠ neg (var z))) (var (pos k) ⊠ var z) (omega arith)

module _ (f n : ℕ) (s e : Flat) where
  pub seen_left :
      let x = across_at true f n s e in
      cross (direction x (times (2 * n) s)) (direction x (times (2 * n) e)) ≡ pos (2 * (n * f) * distance² s e)
  unfolding distance² direction
  seen_left = seen_across true f n s e ∙ ap (λ z. pos (2 * (n * f)) *ℤ z) (cross_left (direction s e))

  pub seen_right :
      let x = across_at false f n s e in
      cross (direction x (times (2 * n) e)) (direction x (times (2 * n) s)) ≡ pos (2 * (n * f) * distance² s e)
  unfolding distance² direction
  seen_right =
      let x = across_at false f n s e in
      let d = direction s e in
      let q = across false d in
      cross_back (direction x (times (2 * n) e)) (direction x (times (2 * n) s))
      ∙ ap neg_ℤ (seen_across false f n s e ∙ ap (λ z. pos (2 * (n * f)) *ℤ z) (cross_back d q))
      ∙ product_back (2 * (n * f)) (cross q d)
      ∙ ap (λ z. pos (2 * (n * f)) *ℤ z) (cross_right d)

  module _ (whole : 0 < n) (some : 0 < f) (differ : 0 < distance² s e) where
    turns : 0 < 2 * (n * f) * distance² s e
    turns = omega (arith, mul-le-mul (mul-le-mul whole some) differ)

    pub end_left :
        let x = across_at true f n s e in
        left (direction x (times (2 * n) s)) (direction x (times (2 * n) e)) ≡ true
    unfolding left
    end_left = rw seen_left (lt-ltb 0 (2 * (n * f) * distance² s e) turns)

    pub end_right :
        let x = across_at false f n s e in
        left (direction x (times (2 * n) e)) (direction x (times (2 * n) s)) ≡ true
    unfolding left
    end_right = rw seen_right (lt-ltb 0 (2 * (n * f) * distance² s e) turns)

-- ---- Where the chord is twice the radius, the centre is its middle, rounded down.

pub chord_longest :
    (r : ℤ) (s e : Flat) → radius_holds r s e ≡ true
    → (spare r s e ≡ 0 → distance² s e ≡ 4 * sq r) × (distance² s e ≡ 4 * sq r → spare r s e ≡ 0)
chord_longest r s e holds = omega (arith, chord_spare r s e holds)

-- one coordinate: its signed squares are compared with 0
middle : (p q c : ℤ) (d : ℕ) → 0 < d → RoundedDown p q 0 d c → c ≡ halved p
middle p q c d some h =
    let none = square_bal (pos 0) d in
    let k = most_square (c +ℤ c -ℤ p) (pos 0) d some (omega (arith, view, none, square_bal q 0, h.not_above)) in
    let l = less_square (pos 0) (c +ℤ c +ℤ pos 2 -ℤ p) d (omega (arith, view, none, square_bal q 0, h.largest)) in
    let i = (var c ⊞ var c ⊟ var p).bal in
    let j = (var c ⊞ var c ⊞ var (pos 2) ⊟ var p).bal in
    omega (arith, view, k, l, i, j, halved_over p, halved_under p)

pub centre_middle :
    (side : Bool) (r : ℤ) (s e c : Flat) → radius_holds r s e ≡ true → distance² s e ≡ 4 * sq r → Centre side r s e c
    → (c.first.v ≡ halved (s.first.v +ℤ e.first.v)) × (c.second.v ≡ halved (s.second.v +ℤ e.second.v))
centre_middle side r s e c holds h k =
    let d = distance² s e in
    let q = across side (direction s e) in
    let z = (chord_longest r s e holds).1 h in
    let some = chord_some r s e holds in (
      middle (s.first.v +ℤ e.first.v) q.first.v c.first.v d some (rw z at k.first),
      middle (s.second.v +ℤ e.second.v) q.second.v c.second.v d some (rw z at k.second),
    )
