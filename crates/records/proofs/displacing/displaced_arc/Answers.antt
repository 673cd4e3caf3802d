-- `records::displacing::displaced_arc` meets its contract.
use Rattle.terms.proofs.Common.{arith, ◌^◌}
use Rattle.lengths.{specs.Near.FlatNear, proofs.Near.flat_near}
use Rattle.records.specs.Path.{arc_moved}
use Rattle.records.proofs.displacing.displaced_arc.Goals as goal

pub plus-requires : goal.plus-requires
plus-requires c =
    let step-near : FlatNear (2 ^ 61) c.in_plane-step.result = rw c.in_plane-step.ensures (flat_near c.args.a.plane c.args.by c.requires.0) in
    omega (arith, step-near)

pub plus-requires-2 : goal.plus-requires-2
plus-requires-2 c =
    let step-near : FlatNear (2 ^ 61) c.in_plane-step.result = rw c.in_plane-step.ensures (flat_near c.args.a.plane c.args.by c.requires.0) in
    omega (arith, step-near)

pub returns : goal.returns
unfolding arc_moved
returns c =
    rw (c.moved.ensures.is, c.plus.ensures.is, c.plus-2.ensures.is, c.in_plane-step.ensures)
