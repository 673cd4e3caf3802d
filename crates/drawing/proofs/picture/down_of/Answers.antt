-- `drawing::picture::down_of` meets its contract: sum and difference by their contracts.
use Rattle.drawing.specs.Picture.{down_of}
use Rattle.drawing.proofs.picture.down_of.Goals as goal

pub returns : goal.returns
unfolding down_of
returns c = rw (c.plus.ensures.is, c.minus.ensures.is, c.of_count.ensures.is, c.zero.ensures.is)
