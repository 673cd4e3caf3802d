-- `cycles::level_z` meets its contract.
use Rattle.cycles.specs.Cycles.{level_z}
use Rattle.cycles.proofs.level_z.Goals as goal

pub aimed-requires : goal.aimed-requires
aimed-requires c = rw c.then_some-word.ensures c.requires

pub returns : goal.returns
unfolding level_z
returns c = rw (← c.then_some-word.ensures) c.aimed.ensures
