-- `settings::base` meets its contract, code by code.
use Rattle.settings.specs.Target.{base}
use Rattle.settings.proofs.base.Goals as goal

pub returns-in-Absolute : goal.returns-in-Absolute
unfolding base
returns-in-Absolute c = rw c.in-Absolute.is

pub returns-in-Incremental : goal.returns-in-Incremental
unfolding base
returns-in-Incremental c = rw c.in-Incremental.is
