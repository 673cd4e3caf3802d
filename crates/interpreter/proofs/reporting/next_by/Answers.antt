-- `interpreter::reporting::next_by` meets its contract, ending by ending.
use Rattle.terms.proofs.Common.{◌≡◌, refl, sym, ap, [], ◌∷◌, rules}
use denote.Enum.Declared.{tag_of}
use types.Run.{OneOf, miss}
use Rattle.refusals.specs.declared.Place.{Place}
use Rattle.runs.specs.Walk.{nowhere}
use Rattle.interpreter.specs.{Progressing.next_by, declared.How.How}
use Rattle.interpreter.specs.declared.How.TheVariants.{Ended, Returned, Unfinished, Refused}
use Rattle.interpreter.specs.contracts.How.{the_type}
use borrow.Enum.Refused.{opened}
use Rattle.interpreter.proofs.reporting.next_by.Goals as goal

no-next : (how : How) (place : Place) → OneOf (0 ∷ 1 ∷ 3 ∷ []) (tag_of the_type how) → nowhere ≡ next_by how place
unfolding next_by
no-next Ended place h = refl
no-next Returned place h = refl
no-next Unfinished place h = absurd (miss (0 ∷ 1 ∷ 3 ∷ []) 2 tt h)
no-next (Refused refusal) place h = refl

pub enum_told-1 : goal.enum_told-1
unfolding next_by
enum_told-1 c = search rules

pub returns-in-Unfinished : goal.returns-in-Unfinished
unfolding next_by
returns-in-Unfinished c = sym (ap (λ (how : How). next_by how c.args.place) c.in-Unfinished.is)

pub returns-in_default : goal.returns-in_default
unfolding next_by
returns-in_default c = no-next c.args.how c.args.place (opened c.in_default.in_default-own.keys2)
