-- `drawing::picture::put_shift` meets its contract: its numbers in their places.
use Rattle.drawing.specs.Picture.{shift}
use Rattle.drawing.proofs.picture.put_shift.Goals as goal

pub returns : goal.returns
unfolding shift
returns c = rw (← c.down_of-down.ensures) c.put_form.ensures
