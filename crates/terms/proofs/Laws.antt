-- Laws of the words that definitions are written in.
use Rattle.terms.proofs.Common.{ℕ, zero, suc, ◌+◌, ◌≤◌, ◌<◌, ◌≡◌, refl, sym, ◌∙◌, ap, List, [], ◌∷◌, ◌++◌, add-zero, zero-add, arith, add-one, length, drop, get_or, drop_of_length-le, drop-cons, Bool, true, false, false≢true, ◌&&◌, ◌||◌, or-false, or-true, or_assoc}
use Rattle.terms.specs.Terms.{any}

-- the halves of two tests that both passed
pub both_left : (a b : Bool) → (a && b) ≡ true → a ≡ true
both_left true b e = refl
both_left false b e = e

pub both_right : (a b : Bool) → (a && b) ≡ true → b ≡ true
both_right true b e = e
both_right false b e = absurd (false≢true e)

-- the halves of two tests of which neither passed
pub either_left : (a b : Bool) → (a || b) ≡ false → a ≡ false
either_left false b e = refl
either_left true b e = e

pub either_right : (a b : Bool) → (a || b) ≡ false → b ≡ false
either_right false b e = e
either_right true b e = absurd (false≢true (sym e))

-- a search through a list by its places
module _ {ℓ} {A : Type ℓ} (test : A → Bool) (l : List A) (i : ℕ) (d : A) where
  pub any_end : length l ≤ i → any test (drop i l) ≡ false
  unfolding any
  any_end h = rw (drop_of_length-le l h)

  pub any_here : i < length l → test (get_or l i d) ≡ true → any test (drop i l) ≡ true
  unfolding any
  any_here h e = rw (drop-cons l i d h) (rw e)

  pub any_past : i < length l → test (get_or l i d) ≡ false → any test (drop i l) ≡ any test (drop (i + 1) l)
  unfolding any
  any_past h e = rw (add-one, drop-cons l i d h) (rw e)

-- a test of a list with one more at its end
pub any_snoc {ℓ} : {A : Type ℓ} (test : A → Bool) (l : List A) (a : A) → any test (l ++ a ∷ []) ≡ (any test l || test a)
unfolding any
any_snoc test [] a = or-false (test a)
any_snoc test (b ∷ l) a = ap (test b ||◌) (any_snoc test l a) ∙ sym (or_assoc (test b) (any test l) (test a))

-- a test that another one allows
pub any-more {ℓ} : {A : Type ℓ} (p q : A → Bool) → ((a : A) → p a ≡ true → q a ≡ true) → (l : List A) → any p l ≡ true → any q l ≡ true
unfolding any
any-more p q h [] e = e
any-more p q h (a ∷ l) e = go (p a) (h a) (any-more p q h l) e
  where
    go : (t : Bool) → (t ≡ true → q a ≡ true) → (any p l ≡ true → any q l ≡ true) → (t || any p l) ≡ true → (q a || any q l) ≡ true
    go true f g k = rw (f refl)
    go false f g k = rw (g k) (or-true (q a))

-- one that two together allow, neither of which holds anywhere
pub any-neither {ℓ} :
    {A : Type ℓ} (p q r : A → Bool) → ((a : A) → p a ≡ true → (q a || r a) ≡ true)
    → (l : List A) → any q l ≡ false → any r l ≡ false → any p l ≡ false
unfolding any
any-neither p q r h [] e f = refl
any-neither p q r h (a ∷ l) e f =
    go (p a) (q a) (r a) (h a) (any-neither p q r h l (either_right (q a) (any q l) e) (either_right (r a) (any r l) f))
    (either_left (q a) (any q l) e) (either_left (r a) (any r l) f)
  where
    go : (t u v : Bool) → (t ≡ true → (u || v) ≡ true) → any p l ≡ false → u ≡ false → v ≡ false → (t || any p l) ≡ false
    go false u v g k m n = k
    go true false false g k m n = absurd (false≢true (g refl))
    go true false true g k m n = absurd (false≢true (sym n))
    go true true v g k m n = absurd (false≢true (sym m))

-- a test that holds of nothing
pub any_false {ℓ} : {A : Type ℓ} (p : A → Bool) → ((a : A) → p a ≡ false) → (l : List A) → any p l ≡ false
unfolding any
any_false p h [] = refl
any_false p h (a ∷ l) = rw (h a) (any_false p h l)

-- a rule of a table, at each of its places, from one computed test
abbrev pub every_place : (ℕ → ℕ → Bool) → ℕ → List ℕ → Bool
every_place rule i [] = true
every_place rule i (x ∷ xs) = rule i x && every_place rule (suc i) xs

every_from : (rule : ℕ → ℕ → Bool) (xs : List ℕ) (i : ℕ) → every_place rule i xs ≡ true → (k : ℕ) → k < length xs → rule (k + i) (get_or xs k 0) ≡ true
every_from rule [] i e k h = absurd (omega arith)
every_from rule (x ∷ xs) i e zero h = rw (zero-add i) (both_left (rule i x) (every_place rule (suc i) xs) e)
every_from rule (x ∷ xs) i e (suc k) h =
    ap (λ (n : ℕ). rule n (get_or xs k 0)) (shift k i) ∙ every_from rule xs (suc i) (both_right (rule i x) (every_place rule (suc i) xs) e) k (omega arith)
  where
    shift : (a b : ℕ) → suc a + b ≡ a + suc b
    shift a b = omega arith

pub every_place_lem : (rule : ℕ → ℕ → Bool) (xs : List ℕ) → every_place rule 0 xs ≡ true → (k : ℕ) → k < length xs → rule k (get_or xs k 0) ≡ true
every_place_lem rule xs e k h = ap (λ (n : ℕ). rule n (get_or xs k 0)) (sym (add-zero k)) ∙ every_from rule xs 0 e k h
