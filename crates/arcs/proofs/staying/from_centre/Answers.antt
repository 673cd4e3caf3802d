-- `arcs::staying::from_centre` meets its contract, axis by axis.
use Rattle.terms.proofs.Common.{arith}
use Rattle.arcs.specs.Turning.{direction}
use Rattle.arcs.proofs.staying.from_centre.Goals as goal

pub minus-requires : goal.minus-requires
minus-requires c = rw (c.in_plane-at.ensures, c.centre_of-centre.ensures) (omega arith)

pub minus-requires-2 : goal.minus-requires-2
minus-requires-2 c = rw (c.in_plane-at.ensures, c.centre_of-centre.ensures) (omega arith)

pub returns : goal.returns
unfolding direction
returns c =
    let i = c.in_plane-at.ensures in
    let o = c.centre_of-centre.ensures in
    let f = rw (i, o) at c.minus.ensures.bal in
    let s = rw (i, o) at c.minus-2.ensures.bal in
    record {
      is = rw (c.minus.ensures.is, c.minus-2.ensures.is, i, o);
      small = omega (arith, f, s, c.requires);
    }
