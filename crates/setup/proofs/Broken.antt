-- The first broken limit of lists one after the other, and of a setup that keeps them all. Assumes nothing.
use Rattle.std.specs.Prelude.{if◌then◌else◌, is_some, MatchOption}
use Rattle.std.specs.Option.{option_or}
use Rattle.terms.proofs.Common.{ℕ, suc, ◌+◌, ◌≤◌, ◌<◌, ◌≡◌, refl, sym, ap, ap₂, ◌∙◌, Bool, true, false, not, ◌&&◌, Option, None, Some, List, [], ◌∷◌, ◌++◌, add-one, length, drop, get_or, drop_of_length-le, drop-cons, ℤ, le_z}
use Rattle.terms.{specs.Terms.all, specs.Terms.between, specs.Terms.within, proofs.Laws.both_left, proofs.Laws.both_right}
use Rattle.lengths.specs.declared.Point.{Point}
use Rattle.setup.specs.{declared.Axes.Axes, declared.Setup.Setup, Frame.point_of}
use Rattle.setup.specs.declared.{Axis.Axis, Axis.TheVariants.X, Axis.TheVariants.Y, Axis.TheVariants.Z, Offset.Offset, Offset.TheVariants.Common, Offset.TheVariants.Origin, Fault.Fault}
use Rattle.setup.specs.Limits.{axis_fits, travel_limit, travel_fits, offset_limit, axes_within, offsets_fit, feed_fits, range_fits, speed_fits, speeds_fit, switch_fits, valid_setup}
use Rattle.setup.specs.Faults.{Limit, first_broken, axis_limits, travel_limits, place_limits, origin_limits, number_limits, limits, fault_of}

-- ---- lists of limits

abbrev kept : List Limit → Bool
kept ls = all (λ l. l.kept) ls

-- the limits are all kept exactly where none is broken
kept_is : (ls : List Limit) → kept ls ≡ not (is_some (first_broken ls))
unfolding first_broken all
kept_is [] = refl
kept_is (l ∷ ls) = go l.kept (kept_is ls)
  where
    go : (t : Bool) → kept ls ≡ not (is_some (first_broken ls)) → (t && kept ls) ≡ not (is_some (if t then first_broken ls else Some l.fault))
    go true e = e
    go false e = refl

-- what the first limits break, or else what those after them break
broken_append : (ls ms : List Limit) → first_broken (ls ++ ms) ≡ option_or (first_broken ls) (first_broken ms)
unfolding first_broken
broken_append [] ms = refl
broken_append (l ∷ ls) ms = go l.kept (broken_append ls ms)
  where
    go :
        (t : Bool) → first_broken (ls ++ ms) ≡ option_or (first_broken ls) (first_broken ms)
        → (if t then first_broken (ls ++ ms) else Some l.fault) ≡ option_or (if t then first_broken ls else Some l.fault) (first_broken ms)
    go true e = e
    go false e = refl

-- a fault that a test of the first limits found, or else what the test of the rest found
pub or_next :
    (o r : Option Fault) (ls ms : List Limit) {P : Type 0} → o ≡ first_broken ls → MatchOption o P (λ f. r ≡ Some f)
    → (P → r ≡ first_broken ms) → r ≡ first_broken (ls ++ ms)
or_next None r ls ms e h k = k h ∙ sym (broken_append ls ms ∙ rw (← e))
or_next (Some f) r ls ms e h k = h ∙ sym (broken_append ls ms ∙ rw (← e))

and_assoc : (a b c : Bool) → (a && (b && c)) ≡ (a && b && c)
and_assoc true b c = refl
and_assoc false b c = refl

kept_append : (ls ms : List Limit) → kept (ls ++ ms) ≡ (kept ls && kept ms)
unfolding all
kept_append [] ms = refl
kept_append (l ∷ ls) ms = ap (l.kept &&◌) (kept_append ls ms) ∙ and_assoc l.kept (kept ls) (kept ms)

-- ---- the origins from a place on

module _ (l : List Axes) (i : ℕ) (d : Axes) where
  -- the one there, and the rest
  one_more :
      i < length l
      → origin_limits i (drop i l) ≡ place_limits (Origin i) (point_of (get_or l i d)) ++ origin_limits (i + 1) (drop (i + 1) l)
  unfolding origin_limits
  one_more h = rw (add-one, drop-cons l i d h)

  pub origins_end : length l ≤ i → first_broken (origin_limits i (drop i l)) ≡ None
  unfolding origin_limits first_broken
  origins_end h = rw (drop_of_length-le l h)

  -- what the test of the one there found, or that it found nothing
  module _ (r : Option Fault) (p : Point) (h : i < length l) (at : p ≡ point_of (get_or l i d)) (e : r ≡ first_broken (place_limits (Origin i) p)) where
    here : first_broken (origin_limits i (drop i l)) ≡ option_or r (first_broken (origin_limits (i + 1) (drop (i + 1) l)))
    here =
        ap first_broken (one_more h)
        ∙ broken_append (place_limits (Origin i) (point_of (get_or l i d))) (origin_limits (i + 1) (drop (i + 1) l))
        ∙ rw (e, at)

    pub origin_stops : (f : Fault) → r ≡ Some f → first_broken (origin_limits i (drop i l)) ≡ Some f
    origin_stops f z = here ∙ rw z

    pub origin_passes : r ≡ None → first_broken (origin_limits i (drop i l)) ≡ first_broken (origin_limits (i + 1) (drop (i + 1) l))
    origin_passes z = here ∙ rw z

-- ---- a setup's limits are kept exactly where it is valid

axis_kept : (axis : Axis) (low high start : ℤ) → kept (axis_limits axis low high start) ≡ axis_fits low high start
unfolding axis_limits axis_fits all
axis_kept axis low high start = four (le_z low high) (within travel_limit low) (within travel_limit high) (between low high start)
  where
    four : (a b c d : Bool) → (a && (b && (c && (d && true)))) ≡ (a && b && c && d)
    four false b c d = refl
    four true false c d = refl
    four true true false d = refl
    four true true true false = refl
    four true true true true = refl

place_kept : (offset : Offset) (a : Axes) → kept (place_limits offset (point_of a)) ≡ axes_within offset_limit a
unfolding place_limits axes_within all
place_kept offset a = three (within offset_limit a.x) (within offset_limit a.y) (within offset_limit a.z)
  where
    three : (a b c : Bool) → (a && (b && (c && true))) ≡ (a && b && c)
    three false b c = refl
    three true false c = refl
    three true true false = refl
    three true true true = refl

origins_kept : (k : ℕ) (l : List Axes) → kept (origin_limits k l) ≡ all (axes_within offset_limit) l
unfolding origin_limits all
origins_kept k [] = refl
origins_kept k (a ∷ l) =
    kept_append (place_limits (Origin k) (point_of a)) (origin_limits (suc k) l)
    ∙ ap₂ ◌&&◌ (place_kept (Origin k) a) (origins_kept (suc k) l)

numbers_kept : (s : Setup) → kept (number_limits s) ≡ (feed_fits s && speeds_fit s && switch_fits s)
unfolding number_limits speeds_fit all
numbers_kept s = four (feed_fits s) (range_fits s) (speed_fits s) (switch_fits s)
  where
    four : (a b c d : Bool) → (a && (b && (c && (d && true)))) ≡ (a && (b && c) && d)
    four false b c d = refl
    four true false c d = refl
    four true true false d = refl
    four true true true false = refl
    four true true true true = refl

travel_kept : (s : Setup) → kept (travel_limits (point_of s.low) (point_of s.high) (point_of s.start)) ≡ travel_fits s
unfolding travel_limits travel_fits
travel_kept s =
    let x = axis_limits X s.low.x s.high.x s.start.x in
    let y = axis_limits Y s.low.y s.high.y s.start.y in
    let z = axis_limits Z s.low.z s.high.z s.start.z in
    kept_append x (y ++ z)
    ∙ ap (kept x &&◌) (kept_append y z)
    ∙ and_assoc (kept x) (kept y) (kept z)
    ∙ ap₂ ◌&&◌ (ap₂ ◌&&◌ (axis_kept X s.low.x s.high.x s.start.x) (axis_kept Y s.low.y s.high.y s.start.y)) (axis_kept Z s.low.z s.high.z s.start.z)

limits_kept : (s : Setup) → kept (limits s) ≡ valid_setup s
unfolding limits valid_setup offsets_fit
limits_kept s =
    let travel = travel_limits (point_of s.low) (point_of s.high) (point_of s.start) in
    let common = place_limits Common (point_of s.exofs) in
    let origins = origin_limits 0 s.origins in
    let numbers = number_limits s in
    kept_append travel (common ++ (origins ++ numbers))
    ∙ ap (kept travel &&◌) (kept_append common (origins ++ numbers) ∙ ap (kept common &&◌) (kept_append origins numbers))
    ∙ regroup (kept travel) (kept common) (kept origins) (kept numbers)
    ∙ ap₂ ◌&&◌ (ap₂ ◌&&◌ (travel_kept s) (ap₂ ◌&&◌ (place_kept Common s.exofs) (origins_kept 0 s.origins))) (numbers_kept s)
  where
    regroup : (a b c d : Bool) → (a && (b && (c && d))) ≡ (a && (b && c) && d)
    regroup false b c d = refl
    regroup true false c d = refl
    regroup true true c d = refl

-- a setup is valid exactly where it breaks no limit
pub valid_is : (s : Setup) → valid_setup s ≡ not (is_some (fault_of s))
unfolding fault_of
valid_is s = sym (limits_kept s) ∙ kept_is (limits s)

pub fault_none : (s : Setup) → fault_of s ≡ None → valid_setup s ≡ true
fault_none s e = valid_is s ∙ rw e

pub none_fault : (s : Setup) → valid_setup s ≡ true → fault_of s ≡ None
none_fault s e = go (fault_of s) (sym (valid_is s) ∙ e)
  where
    go : (o : Option Fault) → not (is_some o) ≡ true → o ≡ None
    go None f = refl
    go (Some fault) f = cc
