-- `cycles::level_r` meets its contract.
use Rattle.cycles.specs.Cycles.{level_r}
use Rattle.cycles.proofs.level_r.Goals as goal

pub aimed-requires : goal.aimed-requires
aimed-requires c = rw c.then_some-word.ensures c.requires

pub returns : goal.returns
unfolding level_r
returns c = rw (← c.then_some-word.ensures) c.aimed.ensures
