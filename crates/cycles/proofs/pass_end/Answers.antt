-- `cycles::pass_end` meets its contract, with Z and without.
use Rattle.terms.proofs.Common.{sym, ◌∙◌, ap}
use Rattle.lengths.specs.Points.{at_height}
use Rattle.cycles.proofs.{Passes.ends_with_z, Passes.ends_without_z}
use Rattle.cycles.proofs.pass_end.Goals as goal

pub returns-then-is_some : goal.returns-then-is_some
returns-then-is_some c =
    let a = c.args in
    λ level from.
    c.at_height.ensures
    ∙ ap (at_height a.p) c.return_level.ensures
    ∙ sym (ends_with_z a.h a.p level from (sym c.is_some.ensures ∙ c.if-is_some.true))

pub returns-else-is_some : goal.returns-else-is_some
returns-else-is_some c =
    let a = c.args in
    λ level from. c.at_height-else-is_some.ensures ∙ sym (ends_without_z a.h a.p level from (sym c.is_some.ensures ∙ c.if-is_some.false))
