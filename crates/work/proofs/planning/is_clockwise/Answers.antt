-- `work::planning::is_clockwise` meets its contract.
use Rattle.terms.proofs.Common.{rules}
use Rattle.work.specs.Work.{is_clockwise}
use Rattle.work.proofs.planning.is_clockwise.Goals as goal

pub returns-in-G02 : goal.returns-in-G02
unfolding is_clockwise
returns-in-G02 c = search rules

pub returns-in_default : goal.returns-in_default
unfolding is_clockwise
returns-in_default c = search rules
