-- `svg::quarters::point_on` meets its contract: plane by plane.
use Rattle.svg.specs.Turns.{lifted, point_on}
use Rattle.svg.proofs.quarters.point_on.Goals as goal

pub returns-in-G17 : goal.returns-in-G17
unfolding lifted point_on
returns-in-G17 c =
    rw (c.in-G17.is, c.plus-first.ensures.is, c.plus-second.ensures.is)

pub returns-in-G18 : goal.returns-in-G18
unfolding lifted point_on
returns-in-G18 c =
    rw (c.in-G18.is, c.plus-first.ensures.is, c.plus-second.ensures.is)

pub returns-in-G19 : goal.returns-in-G19
unfolding lifted point_on
returns-in-G19 c =
    rw (c.in-G19.is, c.plus-first.ensures.is, c.plus-second.ensures.is)
