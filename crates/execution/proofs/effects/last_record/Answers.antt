-- `execution::effects::last_record` meets its contract, by the M code.
use Rattle.terms.proofs.Common.{inl, inr}
use Rattle.codes.specs.Codes.{misc_number, is_m}
use Rattle.work.specs.Work.{brief_records}
use Rattle.blocks.specs.Exec.{last_records}
use Rattle.execution.proofs.{Small.last_none}
use Rattle.execution.proofs.effects.last_record.Goals as goal

pub returns-in-M05 : goal.returns-in-M05
unfolding last_records is_m misc_number brief_records
returns-in-M05 c = rw c.in-M05.is

pub returns-in-M00 : goal.returns-in-M00
unfolding last_records is_m misc_number brief_records
returns-in-M00 c = rw c.in-M00.is

pub returns-in-M02 : goal.returns-in-M02
unfolding last_records is_m misc_number brief_records
returns-in-M02 c = elim c.in-M02.is [ inl e ↦ rw e | inr e ↦ rw e ]

pub returns-in_default : goal.returns-in_default
returns-in_default c = last_none c.args.misc c.in_default.not-M00 c.in_default.not-M02 c.in_default.not-M05 c.in_default.not-M30
