-- `setup::faults::fault_of` meets its contract: a part of the limits after the other.
use Rattle.terms.proofs.Common.{◌∙◌, ◌++◌, ◌≡◌, ap, append_assoc, rules}
use Rattle.setup.specs.{declared.Offset.TheVariants.Common, Frame.point_of}
use Rattle.setup.specs.Faults.{first_broken, travel_limits, place_limits, origin_limits, number_limits, limits, fault_of}
use Rattle.setup.proofs.Broken.{or_next}
use Rattle.setup.proofs.faults.fault_of.Goals as goal

pub returns : goal.returns
unfolding fault_of limits
returns c =
    let s = c.args.s in
    let travel = travel_limits (point_of s.low) (point_of s.high) (point_of s.start) in
    let common = place_limits Common (point_of s.exofs) in
    let origins = origin_limits 0 s.origins in
    let numbers = number_limits s in
    let one : c.travel_fault.result ≡ first_broken travel = c.travel_fault.ensures ∙ rw (c.point_of.ensures, c.point_of-2.ensures, c.point_of-3.ensures) in
    let two : c.or_else.result ≡ first_broken (travel ++ common) = or_next _ _ travel common one c.or_else.ensures (λ p. search rules) in
    let three : c.or_else-2.result ≡ first_broken (travel ++ common ++ origins) = or_next _ _ (travel ++ common) origins two c.or_else-2.ensures (λ p. search rules) in
    or_next _ _ (travel ++ common ++ origins) numbers three c.or_else-3.ensures (λ p. search rules)
    ∙ ap first_broken (append_assoc (travel ++ common) origins numbers ∙ append_assoc travel common (origins ++ numbers))
