-- What only serves the code of the walk: the verdict on a block that is not asked for its call, and the two tests of a call, which
-- come where the call is followed.
use Rattle.std.specs.Prelude.{◌∷◌, if◌then◌else◌}
use Rattle.terms.specs.Common.{ℕ, true, [], eqb}
use Rattle.terms.specs.Terms.{first_of}
use Rattle.refusals.specs.declared.Refusal.TheVariants.{NumberNotFound, NestOver}
use Rattle.blocks.specs.Exec.{Calls, call_to, unknown_call, too_deep, at_start, Verdict, refused, accepted, unless}

-- the calls of a block that is asked for neither 5 nor 6: every number is known, and a level is left; main or not as before
unfoldable pub freely : ℕ → Calls
freely left = record { left = if eqb left 4 then 4 else 1; known = λ n. true }

-- "5; 6": what they make of a verdict that was given without them
unfoldable pub called : Calls → ℕ → Verdict → Verdict
called calls start (refused blame) = refused blame
called calls start (accepted s control made) =
    unless
    (first_of
    (at_start start NumberNotFound (unknown_call calls (call_to control))
    ∷ at_start start NestOver (too_deep calls (call_to control)) ∷ []))
    (accepted s control made)
