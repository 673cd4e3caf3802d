-- `drawing::picture::corner_of` meets its contract: sum and difference by their contracts.
use Rattle.drawing.specs.Picture.{corner_of}
use Rattle.drawing.proofs.picture.corner_of.Goals as goal

pub returns : goal.returns
unfolding corner_of
returns c =
    rw (c.minus.ensures.is, c.negated.ensures.is, c.plus.ensures.is, c.of_count-gap.ensures.is)
