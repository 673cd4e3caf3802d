-- `centres::coordinate` meets its contract.
use Rattle.centres.specs.Centres.{coordinate}
use Rattle.centres.proofs.coordinate.Goals as goal

pub returns : goal.returns
unfolding coordinate
returns c =
    λ n d k.
    rw (c.halved.ensures, c.plus-2.ensures.is, c.scaled_root.ensures.is n d k, c.plus.ensures.is)
