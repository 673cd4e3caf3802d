-- `svg::arc_text::is_passed` meets its contract: to the left or to the right.
use Rattle.svg.specs.ArcText.{passes}
use Rattle.svg.proofs.arc_text.is_passed.Goals as goal

pub returns-then-s : goal.returns-then-s
unfolding passes
returns-then-s c =
    rw c.if-s.true c.is_on_left_way.ensures

pub returns : goal.returns
unfolding passes
returns c =
    rw c.if-s.false c.is_on_left_way-2.ensures
