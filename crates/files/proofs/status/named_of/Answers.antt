-- `files::status::named_of` meets its contract.
use Rattle.terms.proofs.Common.{refl}
use Rattle.files.specs.Names.{named_of}
use Rattle.files.proofs.status.named_of.Goals as goal

pub returns : goal.returns
unfolding named_of
returns c = refl
