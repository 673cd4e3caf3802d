-- `letters::judgement::is_unused` meets its contract.
use Rattle.terms.proofs.Common.{rules}
use Rattle.letters.specs.Letters.{is_nothing}
use Rattle.letters.proofs.judgement.is_unused.Goals as goal

pub returns : goal.returns
unfolding is_nothing
returns c = search rules
