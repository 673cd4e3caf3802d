-- `execution::effects::kept_by` meets its contract, by the code of the block.
use Rattle.blocks.specs.Exec.{kept_by}
use Rattle.execution.proofs.{Small.kept_still}
use borrow.Enum.Refused.{opened}
use Rattle.execution.proofs.effects.kept_by.Goals as goal

pub returns-in-Moving : goal.returns-in-Moving
unfolding kept_by
returns-in-Moving c = rw c.in-Moving.is c.kept_under.ensures

pub returns-in_default : goal.returns-in_default
returns-in_default c = let a = c.args in kept_still a.code a.s a.d a.v (opened c.in_default.in_default-own.keys2)
