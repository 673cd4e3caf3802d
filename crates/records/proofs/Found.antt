-- Laws of what the reader finds at a place. Assumes nothing.
use Rattle.std.{specs.Prelude.Result, specs.Prelude.Ok, specs.Prelude.Err, specs.Result.result_ok, specs.List.find, specs.Option.option_map, specs.Str.bytes_eq, proofs.Math.Bool.and-true}
use Rattle.terms.proofs.Common.{ℕ, ◌+◌, ◌≤◌, ◌<◌, ◌≡◌, refl, sym, ◌∙◌, Bool, Option, None, Some, List, [], ◌∷◌, arith, eq-eqb, ne_eqb, lt-ltb, le-ltb, length, get_or}
use Rattle.terms.specs.Terms.{first}
use Rattle.lengths.specs.declared.{Len.Len, Point.Point}
use Rattle.codes.specs.{Codes.NumbersPlane, declared.NoPlane.NoPlane, declared.Plane.Plane, declared.Plane.TheVariants.G17, declared.Plane.TheVariants.G18, declared.Plane.TheVariants.G19}
use Rattle.records.specs.declared.{Arc.Arc, Kind.Kind, Record.TheVariants.LN as line, Fault.TheVariants.UnknownMark, Fault.TheVariants.CutShort, Fault.TheVariants.OtherPlane}
use Rattle.records.specs.declared.Listed.TheVariants.{Next, End, Faulty}
use Rattle.records.specs.declared.Kind.TheVariants.{RP, LN, AR, AL, DW, SP, SO, PA, EN}
use Rattle.records.specs.Layout.{mark_of, has_plane, head_length, kind_length, numbers_in, point_of, arc_of, record_of, number_at}
use Rattle.records.specs.Reading.{marked, kinds, kind_at, plane_at, plane_for, len_at, numbers_at, plane_read, kind_read, read_at}

-- ---- the first of a list that passes a test

pub first_same :
    {A : Type 0} (f g : A → Bool) (as' : List A) → ((a : A) → f a ≡ g a) → first f as' ≡ first g as'
unfolding first
first_same f g [] h = refl
first_same f g (a ∷ as') h = rw (h a, first_same f g as' h)

-- as the library has it
found_first : {A : Type 0} (f : A → Bool) (as' : List A) → find f as' ≡ first f as'
unfolding first
found_first f [] = refl
found_first f (a ∷ as') = rw (found_first f as')

-- ---- the kind by its mark

module _ (l : List ℕ) (at : ℕ) where
  -- whether a kind's mark stands there, as the code compares it
  abbrev pub stands_there : Kind → Bool
  stands_there kind = bytes_eq (get_or l at 0 ∷ get_or l (at + 1) 0 ∷ []) (mark_of kind)

  same_mark : (kind : Kind) → stands_there kind ≡ marked l at kind
  unfolding marked
  same_mark RP = rw and-true
  same_mark LN = rw and-true
  same_mark AR = rw and-true
  same_mark AL = rw and-true
  same_mark DW = rw and-true
  same_mark SP = rw and-true
  same_mark SO = rw and-true
  same_mark PA = rw and-true
  same_mark EN = rw and-true

  pub kind_found : {r : Option Kind} → option_map (λ kind. kind) r ≡ find stands_there kinds → r ≡ kind_at l at
  unfolding kind_at
  kind_found {r} e = own r ∙ e ∙ found_first stands_there kinds ∙ first_same stands_there (marked l at) kinds same_mark
    where
      own : (o : Option Kind) → o ≡ option_map (λ kind. kind) o
      own None = refl
      own (Some kind) = refl

-- ---- the plane by its byte

pub plane_found : (l : List ℕ) (k : ℕ) (r : Result Plane NoPlane) → NumbersPlane (get_or l k 0) r → result_ok r ≡ plane_at l k
unfolding plane_at first
plane_found l k (Ok G17) e = rw (← e)
plane_found l k (Ok G18) e = rw (← e)
plane_found l k (Ok G19) e = rw (← e)
plane_found l k (Err none) h =
    let b : ℕ = get_or l k 0 in
    simp (ne_eqb b 17 (λ e. h G17 (sym e)), ne_eqb b 18 (λ e. h G18 (sym e)), ne_eqb b 19 (λ e. h G19 (sym e)))

-- ---- numbers, points and arcs in the list

module _ (l : List ℕ) (at : ℕ) where
  pub point_found :
      {x y z : Len} → x ≡ len_at l at → y ≡ len_at l (at + 4) → z ≡ len_at l (at + 8)
      → ◌≡◌ {A = Point} (record { x = x; y = y; z = z }) (point_of (numbers_at 3 l at))
  unfolding numbers_at
  point_found e f g =
      let h : at + 4 + 4 ≡ at + 8 = omega arith in
      rw (e, f, g, h)

  pub line_found :
      {p : Point} {feed : Len} → p ≡ point_of (numbers_at 3 l at) → feed ≡ len_at l (at + 12)
      → line p feed ≡ line (point_of (numbers_at 4 l at)) (number_at (numbers_at 4 l at) 3)
  unfolding numbers_at
  line_found e f =
      let h : at + 4 + 4 + 4 ≡ at + 12 = omega arith in
      rw (e, f, h)

  pub arc_found :
      (plane : Plane) {end : Point} {first second feed : Len}
      → end ≡ point_of (numbers_at 3 l at) → first ≡ len_at l (at + 12) → second ≡ len_at l (at + 16) → feed ≡ len_at l (at + 20)
      → ◌≡◌ {A = Arc}
      (record { plane = plane; end = end; first = first; second = second; feed = feed })
      (arc_of plane (numbers_at 6 l at))
  unfolding numbers_at
  arc_found plane e f g k =
      let h : at + 4 + 4 + 4 ≡ at + 12 = omega arith in
      let i : at + 12 + 4 ≡ at + 16 = omega arith in
      let j : at + 16 + 4 ≡ at + 20 = omega arith in
      rw (e, f, g, k, h, i, j)

-- ---- what the reader says, case by case in its order

module _ (l : List ℕ) (at : ℕ) where
  pub read_end : at ≡ length l → read_at l at ≡ End
  unfolding read_at
  read_end e = rw (eq-eqb at (length l) e)

  pub read_cut : (at ≡ length l → ⊥) → length l < at + 2 → read_at l at ≡ Faulty CutShort at
  unfolding read_at
  read_cut n h = rw (ne_eqb at (length l) n, lt-ltb (length l) (at + 2) h)

  module _ (h : at + 2 ≤ length l) where
    pub read_kind : read_at l at ≡ kind_read l at (kind_at l at)
    unfolding read_at
    read_kind = rw (ne_eqb at (length l) (λ e. omega arith), le-ltb (length l) (at + 2) h)

    pub read_unknown : kind_at l at ≡ None → read_at l at ≡ Faulty UnknownMark at
    unfolding kind_read
    read_unknown e = read_kind ∙ rw e

    module _ {kind : Kind} (e : kind_at l at ≡ Some kind) where
      pub read_short : length l < at + kind_length kind → read_at l at ≡ Faulty CutShort at
      unfolding kind_read
      read_short k = read_kind ∙ rw (e, lt-ltb (length l) (at + kind_length kind) k)

      module _ (k : at + kind_length kind ≤ length l) where
        pub read_plane : read_at l at ≡ plane_read l at kind (plane_for (has_plane kind) l (at + 2))
        unfolding kind_read
        read_plane = read_kind ∙ rw (e, le-ltb (length l) (at + kind_length kind) k)

        pub read_other : plane_for (has_plane kind) l (at + 2) ≡ None → read_at l at ≡ Faulty OtherPlane at
        unfolding plane_read
        read_other p = read_plane ∙ rw p

        pub read_next :
            {plane : Plane} → plane_for (has_plane kind) l (at + 2) ≡ Some plane
            → read_at l at
            ≡ Next (record_of kind plane (numbers_at (numbers_in kind) l (at + head_length kind))) (at + kind_length kind)
        unfolding plane_read
        read_next p = read_plane ∙ rw p
