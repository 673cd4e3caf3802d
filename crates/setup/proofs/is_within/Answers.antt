-- `setup::is_within` meets its contract: the distance from 0 is the number's magnitude.
use Rattle.setup.proofs.{Raw.from_zero}
use Rattle.setup.proofs.is_within.Goals as goal

pub returns : goal.returns
returns c =
    let a = c.args in
    from_zero a.v c.zero.result c.apart.result a.n c.zero.ensures c.apart.ensures
