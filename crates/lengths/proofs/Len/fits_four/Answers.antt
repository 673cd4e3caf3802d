-- `lengths::Len::fits_four` meets its contract: the two tests are the definition's one.
use Rattle.terms.proofs.Common.{rules}
use mir.{Syntax.w64, Val.SFits, Facts.to_z-of_z}
use Rattle.lengths.proofs.{Four.four_between}
use Rattle.lengths.proofs.Len.fits_four.Goals as goal

pub returns : goal.returns
returns c =
    let f : SFits w64 c.args.self.v = search rules in
    rw (to_z-of_z f) (four_between c.args.self.v)
