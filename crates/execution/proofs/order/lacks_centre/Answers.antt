-- `execution::order::lacks_centre` meets its contract.
use Rattle.terms.proofs.Common.{inl, inr}
use Rattle.blocks.specs.Exec.{lacks_centre}
use Rattle.execution.proofs.{Small.no_centre}
use Rattle.execution.proofs.order.lacks_centre.Goals as goal

pub returns-in-G02 : goal.returns-in-G02
unfolding lacks_centre
returns-in-G02 c = elim c.in-G02.is [ inl e ↦ rw (e, c.end_stands.ensures, c.centre_given.ensures) | inr e ↦ rw (e, c.end_stands.ensures, c.centre_given.ensures) ]

pub returns-in_default : goal.returns-in_default
returns-in_default c = no_centre c.args.motion c.args.v c.in_default.not-G02 c.in_default.not-G03
