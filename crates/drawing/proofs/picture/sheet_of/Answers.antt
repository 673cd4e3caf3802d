-- `drawing::picture::sheet_of` meets its contract: the travel of a valid setup is near.
use Rattle.terms.proofs.Common.{refl}
use Rattle.setup.proofs.Valid.{valid_low, valid_high}
use Rattle.drawing.specs.Picture.{sheet_of}
use Rattle.drawing.proofs.picture.sheet_of.Goals as goal

pub gap_of-requires : goal.gap_of-requires
gap_of-requires c =
    rw (c.point_of-low.ensures, c.point_of-high.ensures) (valid_low c.args.s c.requires, valid_high c.args.s c.requires)

pub returns : goal.returns
unfolding sheet_of
returns c =
    let most = rw (c.gap_of.ensures.0, c.point_of-low.ensures, c.point_of-high.ensures) at c.gap_of.ensures.1 in
    rw (c.gap_of.ensures.0, c.point_of-low.ensures, c.point_of-high.ensures, c.point_of.ensures)
    (refl, record { low = valid_low c.args.s c.requires; high = valid_high c.args.s c.requires; gap = most })
