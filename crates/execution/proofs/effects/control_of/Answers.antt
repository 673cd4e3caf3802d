-- `execution::effects::control_of` meets its contract, by the M code.
use Rattle.terms.proofs.Common.{inl, inr}
use Rattle.codes.specs.Codes.{misc_number, is_m}
use Rattle.blocks.specs.Exec.{control_of}
use Rattle.execution.proofs.{Small.leads_on}
use Rattle.execution.proofs.effects.control_of.Goals as goal

pub returns-in-M98 : goal.returns-in-M98
unfolding control_of is_m misc_number
returns-in-M98 c = rw (c.in-M98.is, c.called.ensures)

pub returns-in-M99 : goal.returns-in-M99
unfolding control_of is_m misc_number
returns-in-M99 c = rw c.in-M99.is

pub returns-in-M02 : goal.returns-in-M02
unfolding control_of is_m misc_number
returns-in-M02 c = elim c.in-M02.is [ inl e ↦ rw e | inr e ↦ rw e ]

pub returns-in_default : goal.returns-in_default
returns-in_default c = leads_on c.args.b c.in_default.not-M98 c.in_default.not-M99 c.in_default.not-M02 c.in_default.not-M30
