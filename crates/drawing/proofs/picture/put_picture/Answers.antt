-- `drawing::picture::put_picture` meets its contract: its parts, one after the other.
use Rattle.svg.proofs.Filled.{fills_then}
use Rattle.drawing.specs.Picture.{picture_of}
use Rattle.drawing.proofs.picture.put_picture.Goals as goal

pub returns : goal.returns
unfolding picture_of
returns c =
    fills_then c.put_opening-above.ensures
    (fills_then c.put_view-down.ensures (fills_then c.put_shift-side.ensures (fills_then c.put_view-end.ensures c.put_text.ensures)))
