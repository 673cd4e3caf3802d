-- `setup::travel_of` meets its contract: a valid setup leaves both differences room.
use Rattle.setup.specs.Frame.{offset, travel_of}
use Rattle.setup.proofs.{Valid.moves, Valid.valid_offset, Valid.valid_low, Valid.valid_high}
use Rattle.setup.proofs.travel_of.Goals as goal

pub moved_back-requires : goal.moved_back-requires
moved_back-requires c =
    moves c.args.s.exofs c.args.s.low c.point_of-offset.ensures c.point_of.ensures (valid_offset c.args.s c.requires) (valid_low c.args.s c.requires)

pub moved_back-requires-2 : goal.moved_back-requires-2
moved_back-requires-2 c =
    moves c.args.s.exofs c.args.s.high c.point_of-offset.ensures c.point_of-2.ensures (valid_offset c.args.s c.requires) (valid_high c.args.s c.requires)

pub returns : goal.returns
unfolding travel_of offset
returns c =
    rw (
      c.moved_back.ensures.is,
      c.moved_back-2.ensures.is,
      c.point_of-offset.ensures,
      c.point_of.ensures,
      c.point_of-2.ensures,
    )
