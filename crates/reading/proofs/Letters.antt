-- Letters that are known, the places of letters in the alphabet, and M codes told apart.
use denote.Enum.Bare.{sameb}
use Rattle.terms.proofs.Common.{ℕ, ◌+◌, ◌≤◌, ◌<◌, ◌≡◌, refl, sym, ◌∙◌, ap, Bool, true, false, ◌||◌, List, [], ◌∷◌, arith, ℕ_discrete, ltb, le-ltb, ne_eqb, leb-true, eqb, leb}
use Rattle.terms.{specs.Terms.any, specs.Terms.all, specs.Terms.lookup, proofs.Laws.both_left, proofs.Laws.both_right}
use Rattle.codes.proofs.Tables.{differ}
use Rattle.codes.specs.{Codes.misc_of, Codes.misc_number, Codes.is_m, Codes.is_no_m, declared.Misc.Misc, contracts.Misc.the_type}
use Rattle.codes.specs.declared.Misc.TheVariants.{M00, M02, M03, M05, M30, M98, M99, Other}
use Rattle.words.specs.Words.{is_capital}
use Rattle.letters.specs.Letters.{known, is_known}
use Rattle.reading.specs.Seen.{letter_place}

-- ---- the known letters, and the gaps between them

pub known_at : (k : ℕ) {b : ℕ} → is_known k ≡ true → b ≡ k → true ≡ is_known b
known_at k h e = sym (ap is_known e ∙ h)

pub known_two : (k b : ℕ) → is_known k ≡ true → is_known (k + 1) ≡ true → k ≤ b → b ≤ k + 1 → true ≡ is_known b
known_two k b h i low high = elim (ℕ_discrete b k) [ yes e ↦ known_at k h e | no f ↦ known_at (k + 1) i (omega (arith, f)) ]

pub known_three :
    (k b : ℕ) → is_known k ≡ true → is_known (k + 1) ≡ true → is_known (k + 2) ≡ true → k ≤ b → b ≤ k + 2 → true ≡ is_known b
known_three k b h i j low high =
    elim (ℕ_discrete b (k + 2)) [ yes e ↦ known_at (k + 2) j e | no f ↦ known_two k b h i low (omega (arith, f)) ]

pub known_g : is_known 71 ≡ true
unfolding is_known any
known_g = refl

pub known_m : is_known 77 ≡ true
unfolding is_known any
known_m = refl

any_none : (test : ℕ → Bool) (n : ℕ) (ks : List ℕ) → test n ≡ false → all test ks ≡ true → any (eqb n) ks ≡ false
unfolding any all
any_none test n [] e f = refl
any_none test n (k ∷ ks) e f =
    rw (ne_eqb n k (differ test k n (both_left (test k) (all test ks) f) e)) (any_none test n ks e (both_right (test k) (all test ks) f))

-- no known letter is one of these bytes
pub known_not : (low high b : ℕ) → all (λ k. ltb k low || ltb high k) known ≡ true → low ≤ b → b ≤ high → false ≡ is_known b
unfolding is_known
known_not low high b h i j =
    sym (any_none (λ k. ltb k low || ltb high k) b known (rw (le-ltb b low i, le-ltb high b j)) h)

-- ---- M codes

misc_back : (m : Misc) → misc_of (misc_number m) ≡ m
unfolding misc_of misc_number lookup
misc_back M00 = refl
misc_back M02 = refl
misc_back M03 = refl
misc_back M05 = refl
misc_back M30 = refl
misc_back M98 = refl
misc_back M99 = refl
misc_back Other = refl

-- an M code that is not this one has not its number
pub is_no : (x m : Misc) → (m ≡ x → ⊥) → is_m (misc_number x) m ≡ false
unfolding is_m
is_no x m h = ne_eqb (misc_number m) (misc_number x) (λ e. h (sym (misc_back m) ∙ ap misc_of e ∙ misc_back x))

-- the code's own equality
pub same_m99 : (m : Misc) → sameb the_type m M99 ≡ is_m 99 m
unfolding is_m misc_number
same_m99 M00 = refl
same_m99 M02 = refl
same_m99 M03 = refl
same_m99 M05 = refl
same_m99 M30 = refl
same_m99 M98 = refl
same_m99 M99 = refl
same_m99 Other = refl

pub same_other : (m : Misc) → sameb the_type m Other ≡ is_no_m m
unfolding is_m misc_number
same_other M00 = refl
same_other M02 = refl
same_other M03 = refl
same_other M05 = refl
same_other M30 = refl
same_other M98 = refl
same_other M99 = refl
same_other Other = refl

-- ---- capital letters

module _ (b : ℕ) (capital : is_capital b ≡ true) where
  pub from_a : 65 ≤ b
  from_a = leb-true 65 b (both_left (leb 65 b) (leb b 90) capital)

  pub to_z : b ≤ 90
  to_z = leb-true b 90 (both_right (leb 65 b) (leb b 90) capital)

  pub place_inside : letter_place b < 26
  place_inside = omega (arith, from_a, to_z)

  pub place_back : 65 + letter_place b ≡ b
  place_back = omega (arith, from_a)
