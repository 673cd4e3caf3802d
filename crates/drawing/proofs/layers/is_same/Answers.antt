-- `drawing::layers::is_same` meets its contract: both distances decide.
use Rattle.drawing.specs.Shapes.{same}
use Rattle.drawing.proofs.layers.is_same.Goals as goal

pub returns : goal.returns
unfolding same
returns c =
    rw (c.apart.ensures.is, c.apart-2.ensures.is)
