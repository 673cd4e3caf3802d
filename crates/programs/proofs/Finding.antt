-- The subprogram of a number, searched by the kit's own search. Assumes nothing.
use Rattle.terms.proofs.Common.{ℕ, ◌≡◌, refl, ◌∙◌, ap, cond, Option, None, Some, arith, List, [], ◌∷◌, eqb}
use Rattle.std.proofs.Common.{find}
use Rattle.std.specs.{Option.ok_or, Result.result_ok, Prelude.Result, Prelude.Ok, Prelude.Err}
use Rattle.terms.specs.Terms.{first}
use Rattle.programs.specs.{Openings.known, declared.Program.Program}

-- the first that has the number
pub known_is : (programs : List Program) (n : ℕ) → find (λ p. eqb p.number n) programs ≡ known programs n
unfolding known first
known_is [] n = refl
known_is (p ∷ ps) n = ap (cond (eqb p.number n) (Some p)) (known_is ps n)

-- what `ok_or(..)?` leaves with, and what it goes on with
pub missing : {A E : Type 0} {e : E} {r : Result A E} (o : Option A) (d : E) → r ≡ ok_or o e → r ≡ Err d → (o ≡ None) × (d ≡ e)
missing None d f g = (refl, cc)
missing (Some a) d f g = let never : ◌≡◌ {A = ℕ} 0 1 = cc in absurd (omega arith)

pub present : {A E : Type 0} {r : Result A E} {o : Option A} {a : A} → o ≡ result_ok r → r ≡ Ok a → o ≡ Some a
present f g = f ∙ ap result_ok g
