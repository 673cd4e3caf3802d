-- `setups::setup_of` meets its contract: three numbers for each point, and five more.
use Rattle.terms.proofs.Common.{rules}
use mir.{Syntax.w64, Val.SFits, Facts.to_z-of_z}
use Rattle.setups.specs.Setups.{figure_at, setup_of}
use Rattle.setups.proofs.setup_of.Goals as goal

pub returns : goal.returns
unfolding setup_of
returns c =
    let zs = c.args.numbers in
    let f30 : SFits w64 (figure_at zs 30) = search rules in
    let f31 : SFits w64 (figure_at zs 31) = search rules in
    let f32 : SFits w64 (figure_at zs 32) = search rules in
    let f33 : SFits w64 (figure_at zs 33) = search rules in
    let f34 : SFits w64 (figure_at zs 34) = search rules in
    rw (to_z-of_z f30, to_z-of_z f31, to_z-of_z f32, to_z-of_z f33, to_z-of_z f34, c.axes_of.ensures, c.axes_of-2.ensures, c.axes_of-3.ensures, c.axes_of-4.ensures, c.axes_of-5.ensures, c.axes_of-6.ensures, c.axes_of-7.ensures, c.axes_of-8.ensures, c.axes_of-9.ensures, c.axes_of-10.ensures)
