-- `setup::faults::travel_fault` meets its contract: an axis after the other.
use Rattle.terms.proofs.Common.{◌≡◌, ◌∙◌, ◌++◌, append_assoc, ap, rules}
use Rattle.setup.specs.{declared.Axis.TheVariants.X, declared.Axis.TheVariants.Y, declared.Axis.TheVariants.Z, Faults.axis_limits, Faults.first_broken, Faults.travel_limits}
use Rattle.setup.proofs.{Broken.or_next}
use Rattle.setup.proofs.faults.travel_fault.Goals as goal

pub returns : goal.returns
unfolding travel_limits
returns c =
    let a = c.args in
    let x = axis_limits X a.low.x.v a.high.x.v a.start.x.v in
    let y = axis_limits Y a.low.y.v a.high.y.v a.start.y.v in
    let z = axis_limits Z a.low.z.v a.high.z.v a.start.z.v in
    let two : c.or_else.result ≡ first_broken (x ++ y) = or_next _ _ x y c.axis_fault.ensures c.or_else.ensures (λ p. search rules) in
    or_next _ _ (x ++ y) z two c.or_else-2.ensures (λ p. search rules) ∙ ap first_broken (append_assoc x y z)
