-- `words::steps` meets its contract.
use Rattle.words.proofs.{Worth.steps_pointed, Worth.steps_whole}
use Rattle.words.proofs.steps.Goals as goal

pub returns-then-n : goal.returns-then-n
returns-then-n c = steps_pointed _ _ c.requires.written _ c.requires.decimals_le_places.1 c.if-n.true c.power_of_ten.ensures

pub returns-else-n : goal.returns-else-n
returns-else-n c = steps_whole _ _ c.requires.written c.if-n.false
