-- `letters::turns` meets its contract.
use Rattle.terms.proofs.Common.{rules}
use Rattle.letters.specs.Letters.{turns}
use Rattle.letters.proofs.turns.Goals as goal

pub returns-in-G02 : goal.returns-in-G02
unfolding turns
returns-in-G02 c = search rules

pub returns-in_default : goal.returns-in_default
unfolding turns
returns-in_default c = search rules
