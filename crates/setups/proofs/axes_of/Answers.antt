-- `setups::axes_of` meets its contract: each number is the one that the i64 holds.
use Rattle.terms.proofs.Common.{rules, ◌+◌}
use mir.{Syntax.w64, Val.SFits, Facts.to_z-of_z}
use Rattle.setups.specs.Setups.{axes_of, figure_at}
use Rattle.setups.proofs.axes_of.Goals as goal

pub returns : goal.returns
unfolding axes_of
returns c =
    let a = c.args in
    let x : SFits w64 (figure_at a.numbers a.at) = search rules in
    let y : SFits w64 (figure_at a.numbers (a.at + 1)) = search rules in
    let z : SFits w64 (figure_at a.numbers (a.at + 2)) = search rules in
    rw (to_z-of_z x, to_z-of_z y, to_z-of_z z)
