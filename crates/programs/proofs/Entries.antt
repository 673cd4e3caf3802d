-- The table of subprograms: searched by number, and what an opening leads to.
use Rattle.std.specs.Prelude.{Ok, Err, if◌then◌else◌}
use Rattle.terms.proofs.Common.{ℕ, ◌≤◌, ◌<◌, ◌≡◌, refl, ap, Bool, true, false, ◌||◌, Option, None, Some, List, [], ◌∷◌, arith, eq-eqb, ne_eqb, le-leb, lt-leb, leb-false, eqb, leb, length, length-take-le}
use Rattle.std.specs.List.{list_any}
use Rattle.terms.specs.Terms.{any}
use Rattle.refusals.specs.declared.Refusal.{Refusal, TheVariants.BadParameter, TheVariants.DuplicateNumber, TheVariants.TableOver}
use Rattle.refusals.specs.Numbers.{number_of}
use Rattle.programs.specs.{Openings.is_taken, Openings.entry_of, Found.subs_of, declared.Program.Program, declared.table.Programs.Programs}

pub taken_main : (main : Program) (subs : List Program) (n : ℕ) → n ≡ main.number → is_taken main subs n ≡ true
unfolding is_taken
taken_main main subs n e = rw (eq-eqb n main.number e)

abbrev has : ℕ → Program → Bool
has n p = eqb n p.number

pub taken_rest : (main : Program) (subs : List Program) (n : ℕ) → (n ≡ main.number → ⊥) → is_taken main subs n ≡ any (has n) subs
unfolding is_taken
taken_rest main subs n e = rw (ne_eqb n main.number e)

-- the kit's search is that of the rules
pub any_is : (n : ℕ) (subs : List Program) → list_any (has n) subs ≡ any (has n) subs
unfolding any
any_is n [] = refl
any_is n (p ∷ ps) = ap (has n p ||◌) (any_is n ps)

-- what an opening of a subprogram leads to
module _ (t : Programs) (n : ℕ) where
  pub entry_taken : is_taken t.main (subs_of t) n ≡ true → entry_of t.main (subs_of t) (Some n) ≡ Err DuplicateNumber
  unfolding entry_of
  entry_taken e = rw e

  in_use : length (subs_of t) ≡ t.count
  in_use = length-take-le t.count t.subs (omega (arith, t.places, t.used))

  pub entry_full : is_taken t.main (subs_of t) n ≡ false → 10 ≤ t.count → entry_of t.main (subs_of t) (Some n) ≡ Err TableOver
  unfolding entry_of
  entry_full e h = rw (e, le-leb 10 (length (subs_of t)) (omega (arith, in_use)))

  pub entry_new : is_taken t.main (subs_of t) n ≡ false → t.count < 10 → entry_of t.main (subs_of t) (Some n) ≡ Ok n
  unfolding entry_of
  entry_new e h = rw (e, lt-leb 10 (length (subs_of t)) (omega (arith, in_use)))

-- an opening that enters finds room
pub entry_room : (t : Programs) (o : Option ℕ) (n : ℕ) → entry_of t.main (subs_of t) o ≡ Ok n → t.count < 10
unfolding entry_of
entry_room t None n e = let never : ◌≡◌ {A = ℕ} 0 1 = cc in absurd (omega arith)
entry_room t (Some m) n e = go (is_taken t.main (subs_of t) m) (leb 10 (length (subs_of t))) refl e
  where
    go :
        (taken full : Bool) → leb 10 (length (subs_of t)) ≡ full
        → (if taken then Err DuplicateNumber else (if full then Err TableOver else Ok m)) ≡ Ok n → t.count < 10
    go true full f g = let never : ◌≡◌ {A = ℕ} 0 1 = cc in absurd (omega arith)
    go false true f g = let never : ◌≡◌ {A = ℕ} 0 1 = cc in absurd (omega arith)
    go false false f g = omega (arith, leb-false, f, in_use t m)

-- "per opening 1, 8, 7"
pub entry_refusal :
    (main : Program) (subs : List Program) (o : Option ℕ) (refusal : Refusal) → entry_of main subs o ≡ Err refusal
    → any (eqb (number_of refusal)) (1 ∷ 8 ∷ 7 ∷ []) ≡ true
unfolding entry_of any
entry_refusal main subs None refusal e = let is : refusal ≡ BadParameter = cc in rw is
entry_refusal main subs (Some n) refusal e = go (is_taken main subs n) (leb 10 (length subs)) e
  where
    go :
        (taken full : Bool) → (if taken then Err DuplicateNumber else (if full then Err TableOver else Ok n)) ≡ Err refusal
        → any (eqb (number_of refusal)) (1 ∷ 8 ∷ 7 ∷ []) ≡ true
    go true full f = let is : refusal ≡ DuplicateNumber = cc in rw is
    go false true f = let is : refusal ≡ TableOver = cc in rw is
    go false false f = let never : ◌≡◌ {A = ℕ} 0 1 = cc in absurd (omega arith)
