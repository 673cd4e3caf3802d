-- `words::unpack` meets its contract.
use Rattle.words.specs.Packed.{unpacked}
use Rattle.words.proofs.unpack.Goals as goal

pub returns : goal.returns
unfolding unpacked
returns c = rw c.sign_at.ensures
