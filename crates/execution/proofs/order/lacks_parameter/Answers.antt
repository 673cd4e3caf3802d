-- `execution::order::lacks_parameter` meets its contract.
use Rattle.terms.proofs.Common.{inl, inr}
use Rattle.blocks.specs.Exec.{lacks_parameter}
use Rattle.execution.proofs.{Small.missing_is}
use Rattle.execution.proofs.order.lacks_parameter.Goals as goal

pub returns-in-Calling : goal.returns-in-Calling
unfolding lacks_parameter
returns-in-Calling c =
    elim c.in-Calling.is [
      | inl e ↦ rw e (missing_is c.is_none.result c.is_none.ensures)
      | inr e ↦ rw e (missing_is c.is_none.result c.is_none.ensures)
    ]

pub returns-in-Returning : goal.returns-in-Returning
unfolding lacks_parameter
returns-in-Returning c = rw c.in-Returning.is

pub returns-in-Moving : goal.returns-in-Moving
unfolding lacks_parameter
returns-in-Moving c = rw c.in-Moving.is c.lacks_centre.ensures
