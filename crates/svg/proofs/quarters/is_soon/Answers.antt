-- `svg::quarters::is_soon` meets its contract: on from one quarter, and not on from the next.
use Rattle.svg.specs.Turns.{soon}
use Rattle.svg.proofs.quarters.is_soon.Goals as goal

pub returns : goal.returns
unfolding soon
returns c =
    rw (c.is_onward.ensures, c.is_onward-2.ensures, c.quarter_on.ensures.0)
