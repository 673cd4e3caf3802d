-- `drawing::picture::put_opening` meets its contract: its four numbers in their places.
use Rattle.drawing.specs.Picture.{opening}
use Rattle.drawing.proofs.picture.put_opening.Goals as goal

pub returns : goal.returns
unfolding opening
returns c = rw (← c.corner_of-corner.ensures, ← c.size_of-size.ensures) c.put_form.ensures
