-- `arcs::squared_distance` meets its contract: two squares of at most 3,000,000,000 fit.
use Rattle.terms.proofs.Common.{◌+◌, ◌≡◌, arith}
use Rattle.arcs.specs.Arcs.{distance²}
use Rattle.arcs.proofs.{Reach.distance_near}
use Rattle.arcs.proofs.squared_distance.Goals as goal

pub overflow_add-result : goal.overflow_add-result
unfolding distance²
overflow_add-result c =
    let is : c.square.result + c.square-2.result
    ≡ distance² c.args.a c.args.b = rw
    (c.square.ensures, c.square-2.ensures, c.minus.ensures.is, c.minus-2.ensures.is) in
    rw is (omega (arith, distance_near c.args.a c.args.b c.requires))

pub returns : goal.returns
unfolding distance²
returns c =
    let is : c.square.result + c.square-2.result
    ≡ distance² c.args.a c.args.b = rw
    (c.square.ensures, c.square-2.ensures, c.minus.ensures.is, c.minus-2.ensures.is) in
    is
