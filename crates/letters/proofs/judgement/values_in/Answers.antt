-- `letters::judgement::values_in` meets its contract: each value is the one at its place.
use Rattle.terms.proofs.Common.{refl}
use Rattle.letters.specs.Places.{values_by}
use Rattle.letters.proofs.judgement.values_in.Goals as goal

pub returns : goal.returns
unfolding values_by
returns c = refl
