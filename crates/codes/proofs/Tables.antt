-- How a number is looked up in the tables of codes. A `match` knows of a number that reaches its last arm that it is none
-- of the single numbers and in none of the ranges; a table that has only such numbers does not have it. Assumes nothing.
use Rattle.terms.proofs.Common.{ℕ, zero, suc, ◌+◌, ◌-◌, ◌≤◌, ◌<◌, ◌≡◌, refl, sym, ap, ◌∙◌, Bool, true, false, ◌||◌, and-false, List, [], ◌∷◌, ◌++◌, arith, eqb, leb, get_or, ne_eqb, lt-leb}
use Rattle.terms.{specs.Terms.any, specs.Terms.all, specs.Terms.lookup, specs.Terms.from_to, proofs.Laws.both_left, proofs.Laws.both_right}
use Rattle.codes.specs.Codes.{g_table, m_table, code_of, misc_of}
use Rattle.codes.specs.declared.Plane.{Plane, TheVariants.G17, TheVariants.G18, TheVariants.G19}
use Rattle.codes.specs.declared.{Code.TheVariants.GroupB, Code.TheVariants.GroupE, Code.TheVariants.Unknown, Misc.TheVariants.Other}

-- ---- a number that a table does not have

-- what a `match` says of a number that is none of its single numbers: `ks` are those, the last arm's first
abbrev pub Others : ℕ → List ℕ → Type 0
Others n [] = Unit
Others n (k ∷ ks) = Others n ks × (n ≡ k → ⊥)

abbrev pub among : List ℕ → ℕ → Bool
among ks n = any (eqb n) ks

pub none_of : (n : ℕ) (ks : List ℕ) → Others n ks → among ks n ≡ false
unfolding any
none_of n [] h = refl
none_of n (k ∷ ks) h = rw (ne_eqb n k h.1) (none_of n ks h.0)

-- the numbers of a table all pass a test that n does not pass
abbrev pub passes : {A : Type 0} → (ℕ → Bool) → List (ℕ × A) → Bool
passes test rows = all (λ row. test row.0) rows

pub differ : (test : ℕ → Bool) (m n : ℕ) → test m ≡ true → test n ≡ false → n ≡ m → ⊥
differ test m n p q e = let never : ◌≡◌ {A = ℕ} 0 1 = cc in omega arith

-- such rows are passed
lookup_past :
    {A : Type 0} (test : ℕ → Bool) (n : ℕ) (rows back : List (ℕ × A)) (other : A)
    → test n ≡ false → passes test rows ≡ true → lookup n (rows ++ back) other ≡ lookup n back other
unfolding lookup all
lookup_past test n [] back other h t = refl
lookup_past test n (row ∷ rows) back other h t =
    let apart = differ test row.0 n (both_left (test row.0) (passes test rows) t) h in
    rw (ne_eqb n row.0 apart) (lookup_past test n rows back other h (both_right (test row.0) (passes test rows) t))

pub others_past :
    {A : Type 0} (n : ℕ) (ks : List ℕ) (rows back : List (ℕ × A)) (other : A)
    → Others n ks → passes (among ks) rows ≡ true → lookup n (rows ++ back) other ≡ lookup n back other
others_past n ks rows back other h t = lookup_past (among ks) n rows back other (none_of n ks h) t

abbrev m_keys : List ℕ
m_keys = 99 ∷ 98 ∷ 30 ∷ 5 ∷ 3 ∷ 2 ∷ 0 ∷ []

pub misc_none : (n : ℕ) → Others n m_keys → Other ≡ misc_of n
unfolding misc_of lookup any all
misc_none n h = sym (others_past n m_keys m_table [] Other h refl)

abbrev g_keys : List ℕ
g_keys = 4 ∷ 99 ∷ 98 ∷ 91 ∷ 90 ∷ 21 ∷ 20 ∷ 89 ∷ 85 ∷ 82 ∷ 81 ∷ 80 ∷ 3 ∷ 2 ∷ 1 ∷ 0 ∷ []

abbrev in_range : ℕ → Bool
in_range n = from_to 17 19 n || from_to 54 59 n

pub code_none : (n : ℕ) → Others n g_keys → in_range n ≡ false → Unknown ≡ code_of n
unfolding code_of lookup any all
code_none n h e =
    sym (lookup_past (λ k. in_range k || among g_keys k) n g_table [] Unknown (rw e (none_of n g_keys h)) refl)

-- below, between and above the ranges
pub below_ranges : (n : ℕ) → n < 17 → in_range n ≡ false
below_ranges n h = rw (lt-leb 17 n h, lt-leb 54 n (omega arith))

pub between_ranges : (n : ℕ) → 20 ≤ n → n < 54 → in_range n ≡ false
between_ranges n h k = rw (lt-leb n 19 h, lt-leb 54 n k, and-false (leb 17 n))

pub above_ranges : (n : ℕ) → 60 ≤ n → in_range n ≡ false
above_ranges n h = rw (lt-leb n 19 (omega arith), lt-leb n 59 h, and-false (leb 17 n), and-false (leb 54 n))

-- ---- a number that a table has

pub code_at : (k : ℕ) {n : ℕ} → n ≡ k → code_of k ≡ code_of n
code_at k e = ap code_of (sym e)

pub misc_at : (k : ℕ) {n : ℕ} → n ≡ k → misc_of k ≡ misc_of n
misc_at k e = ap misc_of (sym e)

-- G17 to G19 name the planes in their order
abbrev planes : List Plane
planes = G17 ∷ G18 ∷ G19 ∷ []

pub plane_there : (n : ℕ) → n < 20 → n - 17 < 3
plane_there n h = omega arith

plane : (k : ℕ) → k ≤ 2 → (none : Plane) → GroupB (get_or planes k none) ≡ code_of (17 + k)
unfolding code_of lookup
plane zero h none = refl
plane (suc zero) h none = refl
plane (suc (suc zero)) h none = refl
plane (suc (suc (suc k))) h none = absurd (omega arith)

pub plane_of : (n : ℕ) → 17 ≤ n → n < 20 → (none : Plane) → GroupB (get_or planes (n - 17) none) ≡ code_of n
plane_of n h k none = plane (n - 17) (omega arith) none ∙ ap code_of (omega arith)

-- G54 to G59 name the places in their order
place : (k : ℕ) → k ≤ 5 → GroupE k ≡ code_of (54 + k)
unfolding code_of lookup
place zero h = refl
place (suc zero) h = refl
place (suc (suc zero)) h = refl
place (suc (suc (suc zero))) h = refl
place (suc (suc (suc (suc zero)))) h = refl
place (suc (suc (suc (suc (suc zero))))) h = refl
place (suc (suc (suc (suc (suc (suc k)))))) h = absurd (omega arith)

pub place_of : (n : ℕ) → 54 ≤ n → n < 60 → GroupE (n - 54) ≡ code_of n
place_of n h k = place (n - 54) (omega arith) ∙ ap code_of (omega arith)
