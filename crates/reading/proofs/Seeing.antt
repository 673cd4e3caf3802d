-- What is kept of the words tells whether the next one may stand, and is kept with it.
use Rattle.std.specs.Prelude.{if◌then◌else◌}
use Rattle.terms.proofs.Common.{ℕ, ◌+◌, ◌<◌, ◌≡◌, refl, sym, ◌∙◌, ap, Bool, true, false, false≢true, not, ◌&&◌, ◌||◌, or-false, or-true, None, Some, List, [], ◌∷◌, ◌++◌, arith, ℕ_discrete, eq-eqb, ne_eqb, eqb-true, eqb, lit<, length, get_or, set, replicate, length-set, length-replicate, get_or-replicate, get_or-set_same, get_or-set_other}
use Rattle.terms.specs.Terms.{any, first}
use Rattle.terms.proofs.Laws.{either_left, either_right, any_snoc, any-more, any-neither, any_false}
use Rattle.codes.specs.{declared.Code.Code, declared.Misc.Misc, declared.Misc.TheVariants.Other, Codes.group_of, Codes.is_group_a, Codes.is_g04, Codes.clash, Codes.is_m, Codes.misc_number}
use Rattle.codes.specs.declared.Code.TheVariants.{GroupA, GroupB, GroupC, GroupD, GroupE, GroupF, G04, Unknown}
use Rattle.words.specs.{declared.Word.Word, Words.is_capital}
use Rattle.settings.specs.{declared.Modes.Modes, Settings.switched}
use Rattle.letters.specs.Letters.{is_known, is_g, is_misc, code_in, misc_in, stands_alone, repeats, bad_g, bad_m, may_not_stand, misc_or_other, misc_of_block, modes_in}
use Rattle.reading.specs.{Seen.letter_place, Seen.has_letter, Seen.has_group, Seen.is_alone, Seen.Coded, Seen.Sums, Seen.bad_misc, declared.Seen.Seen}
use Rattle.reading.proofs.Letters.{known_at, known_g, known_m, place_inside, place_back}

-- ---- nothing read yet

abbrev pub nothing_seen : Modes → Seen
nothing_seen m = record { letters = replicate 26 false; groups = replicate 8 false; misc = Other; modes = m }

pub sums_none : (m : Modes) → Sums m [] (nothing_seen m)
unfolding any stands_alone is_m misc_number misc_of_block misc_or_other first modes_in
sums_none m =
    record {
      places = length-replicate 26 false;
      letters = λ k h. get_or-replicate 26 k false false h;
      coded = record { kinds = length-replicate 8 false; each = λ g h. get_or-replicate 8 g false false h; alone = refl };
      misc = refl;
      modes = refl;
    }

-- ---- one word more

unfoldable pub seen_with : Seen → Word → Seen
seen_with seen w =
    record {
      letters = set seen.letters (letter_place w.letter) true;
      groups = if is_g w then set seen.groups (group_of (code_in w)) true else seen.groups;
      misc = if is_misc w then misc_in w else seen.misc;
      modes = if is_g w then switched seen.modes (code_in w) else seen.modes;
    }

pub group_most : (c : Code) → group_of c < 8
unfolding group_of
group_most (GroupA m) = lit< tt
group_most (GroupB p) = lit< tt
group_most (GroupC u) = lit< tt
group_most (GroupD d) = lit< tt
group_most (GroupE k) = lit< tt
group_most (GroupF r) = lit< tt
group_most G04 = lit< tt
group_most Unknown = lit< tt

modes_snoc : (m : Modes) (done : List Word) (w : Word) → modes_in m (done ++ w ∷ []) ≡ (if is_g w then switched (modes_in m done) (code_in w) else modes_in m done)
unfolding modes_in
modes_snoc m [] w = refl
modes_snoc m (e ∷ done) w = modes_snoc (if is_g e then switched m (code_in e) else m) done w

-- the first of a list with one more at its end
first_snoc : (test : Word → Bool) (done : List Word) (w : Word) → any test done ≡ false → first test (done ++ w ∷ []) ≡ (if test w then Some w else None)
unfolding first any
first_snoc test [] w e = refl
first_snoc test (x ∷ done) w e =
    rw (either_left (test x) (any test done) e) (first_snoc test done w (either_right (test x) (any test done) e))

first_kept : (test : Word → Bool) (done : List Word) (w : Word) → test w ≡ false → first test (done ++ w ∷ []) ≡ first test done
unfolding first
first_kept test [] w e = rw e
first_kept test (x ∷ done) w e = elim (test x) as (λ t. (if t then Some x else first test (done ++ w ∷ [])) ≡ (if t then Some x else first test done)) [ true ↦ refl | false ↦ first_kept test done w e ]

-- a list without a letter M has no M code
no_misc : (test : Word → Bool) (done : List Word) → any is_misc done ≡ false → any (λ e. is_misc e && test e) done ≡ false
no_misc test done h = any-neither (λ e. is_misc e && test e) is_misc is_misc (λ e f. go (is_misc e) (test e) f) done h h
  where
    go : (t u : Bool) → (t && u) ≡ true → (t || t) ≡ true
    go true u f = refl
    go false u f = f

module _ (m : Modes) (done : List Word) (seen : Seen) (s : Sums m done seen) (w : Word) (capital : is_capital w.letter ≡ true) where
  letters_with : (j : ℕ) → j < 26 → get_or (set seen.letters (letter_place w.letter) true) j false ≡ any (has_letter (65 + j)) (done ++ w ∷ [])
  letters_with j h =
      elim (ℕ_discrete j (letter_place w.letter)) [
        | yes e ↦
            let same : has_letter (65 + j) w ≡ true = eq-eqb w.letter (65 + j) (omega (arith, e, place_back w.letter capital)) in
            ap (λ (i : ℕ). get_or (set seen.letters (letter_place w.letter) true) i false) e
            ∙ get_or-set_same seen.letters (letter_place w.letter) true false (omega (arith, s.places, place_inside w.letter capital))
            ∙ sym (any_snoc (has_letter (65 + j)) done w ∙ ap (any (has_letter (65 + j)) done ||◌) same ∙ or-true (any (has_letter (65 + j)) done))
        | no f ↦
            let other : has_letter (65 + j) w ≡ false = ne_eqb w.letter (65 + j) (λ e. f (omega (arith, e))) in
            get_or-set_other seen.letters (letter_place w.letter) j true false f ∙ s.letters j h
            ∙ sym (any_snoc (has_letter (65 + j)) done w ∙ ap (any (has_letter (65 + j)) done ||◌) other ∙ or-false (any (has_letter (65 + j)) done))
      ]

  abbrev groups_with : Bool → List Bool
  groups_with t = if t then set seen.groups (group_of (code_in w)) true else seen.groups

  groups_with_lem : (g : ℕ) → g < 8 → get_or (groups_with (is_g w)) g false ≡ any (has_group g) (done ++ w ∷ [])
  groups_with_lem g h = go (is_g w) ∙ sym (any_snoc (has_group g) done w)
    where
      kept : (t : Bool) → t ≡ false → get_or seen.groups g false ≡ (any (has_group g) done || t)
      kept t e = s.coded.each g h ∙ sym (ap (any (has_group g) done ||◌) e ∙ or-false (any (has_group g) done))

      go : (t : Bool) → get_or (groups_with t) g false ≡ (any (has_group g) done || t && eqb (group_of (code_in w)) g)
      go false = kept false refl
      go true =
          elim (ℕ_discrete g (group_of (code_in w))) [
            | yes e ↦
                ap (λ (i : ℕ). get_or (set seen.groups (group_of (code_in w)) true) i false) e
                ∙ get_or-set_same seen.groups (group_of (code_in w)) true false (omega (arith, s.coded.kinds, group_most (code_in w)))
                ∙ sym (ap (any (has_group g) done ||◌) (eq-eqb (group_of (code_in w)) g (sym e)) ∙ or-true (any (has_group g) done))
            | no f ↦
                get_or-set_other seen.groups (group_of (code_in w)) g true false f
                ∙ kept (eqb (group_of (code_in w)) g) (ne_eqb (group_of (code_in w)) g (λ e. f (sym e)))
          ]

  pub sums_with : (is_misc w ≡ true → any is_misc done ≡ false) → Sums m (done ++ w ∷ []) (seen_with seen w)
  unfolding seen_with misc_of_block misc_or_other
  sums_with once =
      record {
        places = length-set seen.letters (letter_place w.letter) true ∙ s.places;
        letters = letters_with;
        coded =
            record {
              kinds = kinds_with (is_g w);
              each = groups_with_lem;
              alone = any_snoc is_alone done w ∙ alone_with (is_misc w) refl once;
            };
        misc = misc_with (is_misc w) refl once;
        modes = ap (λ (x : Modes). if is_g w then switched x (code_in w) else x) s.modes ∙ sym (modes_snoc m done w);
      }
    where
      kinds_with : (t : Bool) → length (groups_with t) ≡ 8
      kinds_with true = length-set seen.groups (group_of (code_in w)) true ∙ s.coded.kinds
      kinds_with false = s.coded.kinds

      alone_with :
          (t : Bool) → is_misc w ≡ t → (t ≡ true → any is_misc done ≡ false)
          → (any is_alone done || t && stands_alone (misc_in w)) ≡ stands_alone (if t then misc_in w else seen.misc)
      alone_with true e h = rw (no_misc (λ x. stands_alone (misc_in x)) done (h refl))
      alone_with false e h = or-false (any is_alone done) ∙ s.coded.alone

      misc_with :
          (t : Bool) → is_misc w ≡ t → (t ≡ true → any is_misc done ≡ false)
          → (if t then misc_in w else seen.misc) ≡ misc_or_other (first is_misc (done ++ w ∷ []))
      misc_with true e h = sym (ap misc_or_other (first_snoc is_misc done w (h refl)) ∙ rw e)
      misc_with false e h = s.misc ∙ sym (ap misc_or_other (first_kept is_misc done w e))

-- ---- a G code

-- what is told of a G code c, after the words done
abbrev pub told_g : Code → List Word → Bool
told_g c done = eqb (group_of c) 0 || any (λ e. is_g e && clash (code_in e) c) done || any is_alone done

module _ (done : List Word) (groups : List Bool) (misc : Misc) (s : Coded done groups misc) (c : Code) where
  clashes : any (λ e. is_g e && clash (code_in e) c) done ≡ true → told_g c done ≡ true
  clashes e = rw e (ap (◌|| any is_alone done) (or-true (eqb (group_of c) 0)))

  pub told_unknown : group_of c ≡ 0 → true ≡ told_g c done
  told_unknown e = rw (eq-eqb (group_of c) 0 e)

  -- a group whose words all clash with c
  by_group : (g : ℕ) → g < 8 → ((e : Code) → group_of e ≡ g → clash e c ≡ true) → get_or groups g false ≡ true → true ≡ told_g c done
  by_group g h all-clash e =
      sym
      (clashes
      (any-more (has_group g) (λ x. is_g x && clash (code_in x) c) (λ x. go (is_g x) (code_in x) (eqb (group_of (code_in x)) g) refl) done
      (sym (s.each g h) ∙ e)))
    where
      go : (t : Bool) (x : Code) (u : Bool) → eqb (group_of x) g ≡ u → (t && u) ≡ true → (t && clash x c) ≡ true
      go true x true f k = all-clash x (eqb-true (group_of x) g f)
      go true x false f k = absurd (false≢true k)
      go false x u f k = k

  pub told_group : get_or groups (group_of c) false ≡ true → true ≡ told_g c done
  unfolding clash
  told_group e = by_group (group_of c) (group_most c) (λ x f. rw (eq-eqb (group_of x) (group_of c) f)) e

  pub told_dwell : group_of c ≡ 1 → get_or groups 7 false ≡ true → true ≡ told_g c done
  unfolding clash is_group_a is_g04
  told_dwell h e = by_group 7 (lit< tt) (λ x f. rw (h, f)) e

  pub told_motion : group_of c ≡ 7 → get_or groups 1 false ≡ true → true ≡ told_g c done
  unfolding clash is_group_a is_g04
  told_motion h e = by_group 1 (lit< tt) (λ x f. rw (h, f)) e

  -- G04 beside group A, whichever is c
  pair : Word → Bool
  pair e = is_g e && (eqb (group_of (code_in e)) 1 && eqb (group_of c) 7 || eqb (group_of (code_in e)) 7 && eqb (group_of c) 1)

  none_pair : (group_of c ≡ 1 → get_or groups 7 false ≡ false) → (group_of c ≡ 7 → get_or groups 1 false ≡ false) → any pair done ≡ false
  unfolding pair
  none_pair dwell motion =
      elim (ℕ_discrete (group_of c) 1) [
        | yes e ↦
            let none-seven = sym (s.each 7 (lit< tt)) ∙ dwell e in
            any-neither pair (has_group 7) (has_group 7) (λ x f. seven (is_g x) (eqb (group_of (code_in x)) 1) (eqb (group_of (code_in x)) 7) (rw e at f)) done none-seven none-seven
        | no g ↦
            (elim (ℕ_discrete (group_of c) 7) [
              | yes e ↦
                  let none-one = sym (s.each 1 (lit< tt)) ∙ motion e in
                  any-neither pair (has_group 1) (has_group 1) (λ x f. one (is_g x) (eqb (group_of (code_in x)) 1) (eqb (group_of (code_in x)) 7) (rw e at f)) done none-one none-one
              | no h ↦
                  any_false pair (λ x. rw (ne_eqb (group_of c) 1 g, ne_eqb (group_of c) 7 h) (neither (is_g x) (eqb (group_of (code_in x)) 1) (eqb (group_of (code_in x)) 7))) done
            ])
      ]
    where
      seven : (t a b : Bool) → (t && (a && false || b && true)) ≡ true → (t && b || t && b) ≡ true
      seven false a b f = f
      seven true a true f = refl
      seven true true false f = f
      seven true false false f = f

      one : (t a b : Bool) → (t && (a && true || b && false)) ≡ true → (t && a || t && a) ≡ true
      one false a b f = f
      one true true b f = refl
      one true false true f = f
      one true false false f = f

      neither : (t a b : Bool) → (t && (a && false || b && false)) ≡ false
      neither false a b = refl
      neither true true true = refl
      neither true true false = refl
      neither true false true = refl
      neither true false false = refl

  -- where neither its own group nor the one that it does not stand with was read, only an M98 or M99 tells
  pub told_rest :
      (alone : Bool) → alone ≡ stands_alone (misc) → (group_of c ≡ 0 → ⊥) → get_or groups (group_of c) false ≡ false
      → (group_of c ≡ 1 → get_or groups 7 false ≡ false) → (group_of c ≡ 7 → get_or groups 1 false ≡ false) → alone ≡ told_g c done
  unfolding pair clash is_group_a is_g04
  told_rest alone is known' own dwell motion =
      is ∙ sym s.alone ∙ sym (rw (ne_eqb (group_of c) 0 known') (ap (◌|| any is_alone done) none_clash))
    where
      split : (t x y z : Bool) → (t && (x || y || z)) ≡ true → (t && x || t && (y || z)) ≡ true
      split false x y z f = f
      split true true y z f = refl
      split true false y z f = f

      none_clash : any (λ e. is_g e && clash (code_in e) c) done ≡ false
      none_clash =
          any-neither (λ e. is_g e && clash (code_in e) c) (has_group (group_of c)) pair
          (λ x. split (is_g x) (eqb (group_of (code_in x)) (group_of c)) (eqb (group_of (code_in x)) 1 && eqb (group_of c) 7) (eqb (group_of (code_in x)) 7 && eqb (group_of c) 1))
          done (sym (s.each (group_of c) (group_most c)) ∙ own) (none_pair dwell motion)

  -- .. and of group A and G04, the other one
  pub told_one :
      (alone : Bool) → alone ≡ stands_alone (misc) → get_or groups (group_of c) false ≡ false → group_of c ≡ 1
      → (get_or groups 7 false || alone) ≡ told_g c done
  told_one alone is own e = go (get_or groups 7 false) refl
    where
      go : (t : Bool) → get_or groups 7 false ≡ t → (t || alone) ≡ told_g c done
      go true f = told_dwell e f
      go false f = told_rest alone is (λ g. omega arith) own (λ g. f) (λ g. absurd (omega arith))

  pub told_seven :
      (alone : Bool) → alone ≡ stands_alone (misc) → get_or groups (group_of c) false ≡ false → group_of c ≡ 7
      → (get_or groups 1 false || alone) ≡ told_g c done
  told_seven alone is own e = go (get_or groups 1 false) refl
    where
      go : (t : Bool) → get_or groups 1 false ≡ t → (t || alone) ≡ told_g c done
      go true f = told_motion e f
      go false f = told_rest alone is (λ g. omega arith) own (λ g. absurd (omega arith)) (λ g. f)

-- ---- any word

module _ (main : Bool) (done : List Word) (w : Word) where
  pub tells_code : (r : Bool) → is_g w ≡ true → r ≡ told_g (code_in w) done → may_not_stand main done w ≡ r
  unfolding may_not_stand repeats bad_g
  tells_code r e f =
      let is = eqb-true w.letter 71 e in
      rw (sym (known_at 71 known_g is), e, ne_eqb w.letter 77 (λ g. omega arith)) (or-false (told_g (code_in w) done)) ∙ sym f

  module _ (other : is_g w ≡ false) where
    pub tells_wrong : (stood : Bool) → stood ≡ any (has_letter w.letter) done → (stood || not (is_known w.letter)) ≡ true → may_not_stand main done w ≡ true
    unfolding may_not_stand repeats
    tells_wrong stood e f = rw (other, sym e) (go (is_known w.letter) stood f)
      where
        go : (k t : Bool) → (t || not k) ≡ true → (not k || t || false || is_misc w && bad_m main done w) ≡ true
        go true true g = refl
        go false t g = refl
        go true false g = absurd (false≢true g)

    module _ (stood : Bool) (e : stood ≡ any (has_letter w.letter) done) (f : (stood || not (is_known w.letter)) ≡ false) where
      rest : may_not_stand main done w ≡ (is_misc w && bad_m main done w)
      unfolding may_not_stand repeats
      rest = rw (other, sym e) (go (is_known w.letter) stood f)
        where
          go : (k t : Bool) → (t || not k) ≡ false → (not k || t || false || is_misc w && bad_m main done w) ≡ (is_misc w && bad_m main done w)
          go true false g = refl
          go true true g = absurd (false≢true (sym g))
          go false true g = absurd (false≢true (sym g))
          go false false g = absurd (false≢true (sym g))

      pub tells_misc : (r after : Bool) → after ≡ any is_g done → is_misc w ≡ true → r ≡ bad_misc main after (misc_in w) → may_not_stand main done w ≡ r
      unfolding bad_m
      tells_misc r after g h k = rest ∙ rw h (sym (k ∙ ap (λ (t : Bool). bad_misc main t (misc_in w)) g))

      pub tells_other : is_misc w ≡ false → may_not_stand main done w ≡ false
      tells_other h = rest ∙ rw h

  -- an M code that is the first one
  pub tells_misc_code : is_misc w ≡ true → false ≡ any (has_letter w.letter) done → (r after : Bool) → after ≡ any is_g done → r ≡ bad_misc main after (misc_in w) → may_not_stand main done w ≡ r
  tells_misc_code h e r after g k =
      let is = eqb-true w.letter 77 h in
      tells_misc (ne_eqb w.letter 71 (λ d. omega arith)) false e (rw (sym (known_at 77 known_m is))) r after g h k
