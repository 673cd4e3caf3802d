-- `svg::quarters::is_near` meets its contract: the distance decides.
use Rattle.svg.specs.Turns.{near}
use Rattle.svg.proofs.quarters.is_near.Goals as goal

pub returns : goal.returns
unfolding near
returns c =
    rw c.apart.ensures.is
