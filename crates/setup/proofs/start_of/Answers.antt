-- `setup::start_of` meets its contract: a valid setup leaves the difference room.
use Rattle.terms.proofs.Common.{◌∙◌}
use Rattle.setup.specs.Frame.{offset, start_of}
use Rattle.setup.proofs.{Valid.moves, Valid.valid_offset, Valid.valid_start}
use Rattle.setup.proofs.start_of.Goals as goal

pub moved_back-requires : goal.moved_back-requires
moved_back-requires c =
    moves c.args.s.exofs c.args.s.start c.point_of.ensures c.point_of-2.ensures (valid_offset c.args.s c.requires) (valid_start c.args.s c.requires)

pub returns : goal.returns
unfolding start_of offset
returns c = c.moved_back.ensures.is ∙ rw (c.point_of.ensures, c.point_of-2.ensures)
