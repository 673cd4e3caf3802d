-- `letters::is_arc` meets its contract.
use Rattle.terms.proofs.Common.{rules}
use Rattle.letters.specs.Letters.{is_arc}
use Rattle.letters.proofs.is_arc.Goals as goal

pub returns-in-Moving : goal.returns-in-Moving
unfolding is_arc
returns-in-Moving c = search rules

pub returns-in_default : goal.returns-in_default
unfolding is_arc
returns-in_default c = search rules

pub returns-in_default-2 : goal.returns-in_default-2
unfolding is_arc
returns-in_default-2 c = search rules
