-- `letters::length_among` meets its contract.
use Rattle.std.specs.Prelude.{if◌then◌else◌}
use Rattle.terms.proofs.Common.{ℕ, ◌≡◌, refl, sym, Bool, true, false, ◌||◌, [], ◌∷◌, eqb, eqb-true, eqb-false, eq-eqb, ne_eqb}
use Rattle.terms.specs.Terms.{lookup}
use Rattle.words.specs.declared.Use.TheVariants.{Nothing, Length}
use Rattle.letters.specs.Letters.{used_in, each}
use Rattle.letters.proofs.length_among.Goals as goal

turned : (a b : ℕ) → eqb a b ≡ eqb b a
turned a b = go (eqb b a) refl
  where
    go : (t : Bool) → eqb b a ≡ t → eqb a b ≡ t
    go true e = eq-eqb a b (sym (eqb-true b a e))
    go false e = ne_eqb a b (λ f. eqb-false b a e (sym f))

-- whether it is one of four letters
module _ (letter a b c d : ℕ) where
  among :
      (t : Bool) → t ≡ (eqb a letter || (eqb b letter || (eqb c letter || (eqb d letter || false))))
      → (if t then Length else Nothing) ≡ used_in (each (a ∷ b ∷ c ∷ d ∷ []) Length) letter
  unfolding lookup
  among t e = rw (e, turned letter a, turned letter b, turned letter c, turned letter d) (go (eqb a letter) (eqb b letter) (eqb c letter) (eqb d letter))
    where
      go :
          (p q r s : Bool)
          → (if p || (q || (r || (s || false))) then Length else Nothing)
          ≡ (if p then Length else (if q then Length else (if r then Length else (if s then Length else Nothing))))
      go true q r s = refl
      go false true r s = refl
      go false false true s = refl
      go false false false true = refl
      go false false false false = refl

pub returns-then-contains : goal.returns-then-contains
returns-then-contains c =
    let a = c.args in rw c.if-contains.true at (among a.letter a.a a.b a.c a.d c.contains.result c.contains.ensures.value)

pub returns-else-contains : goal.returns-else-contains
returns-else-contains c =
    let a = c.args in rw c.if-contains.false at (among a.letter a.a a.b a.c a.d c.contains.result c.contains.ensures.value)
