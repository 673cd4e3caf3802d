-- `svg::arc_text::seen_on` meets its contract: the point where the direction leads, seen.
use Rattle.svg.specs.ArcText.{seen_on}
use Rattle.svg.proofs.arc_text.seen_on.Goals as goal

pub returns : goal.returns
unfolding seen_on
returns c =
    rw (c.seen.ensures, c.point_on.ensures)
