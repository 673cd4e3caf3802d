-- `drawing::picture::put_view` meets its contract: its parts, one after the other.
use Rattle.svg.proofs.Filled.{fills_then}
use Rattle.drawing.specs.Picture.{view_of}
use Rattle.drawing.proofs.picture.put_view.Goals as goal

pub returns : goal.returns
unfolding view_of
returns c =
    fills_then c.put_marks-rapids.ensures
    (fills_then c.put_path-end.ensures (fills_then c.put_text-cuts.ensures c.put_path.ensures))
