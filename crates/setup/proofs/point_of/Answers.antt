-- `setup::point_of` meets its contract: each axis is the number that the i64 holds.
use Rattle.terms.proofs.Common.{rules}
use Rattle.setup.proofs.{Raw.of_raw}
use Rattle.setup.proofs.point_of.Goals as goal

pub returns : goal.returns
returns c =
    let a = c.args.a in
    let x = of_raw a.x c.of.result (search rules) c.of.ensures in
    let y = of_raw a.y c.of-2.result (search rules) c.of-2.ensures in
    let z = of_raw a.z c.of-3.result (search rules) c.of-3.ensures in
    rw (x, y, z)
