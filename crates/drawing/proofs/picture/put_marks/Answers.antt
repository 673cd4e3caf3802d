-- `drawing::picture::put_marks` meets its contract: its parts, one after the other.
use Rattle.svg.proofs.Filled.{fills_then}
use Rattle.drawing.specs.Picture.{marks}
use Rattle.drawing.proofs.picture.put_marks.Goals as goal

pub returns : goal.returns
unfolding marks
returns c =
    rw (← c.seen-low.ensures, ← c.seen-high.ensures, ← c.seen-start.ensures)
    (fills_then c.put_form-next.ensures c.put_form.ensures)
