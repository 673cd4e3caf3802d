-- `setup::faults::axis_fault` meets its contract: its tests are the limits, in order.
use Rattle.terms.proofs.Common.{sym, ◌∙◌}
use Rattle.setup.specs.Faults.{first_broken, axis_limits}
use Rattle.setup.proofs.faults.axis_fault.Goals as goal

pub returns-then-not-at_most : goal.returns-then-not-at_most
unfolding first_broken axis_limits
returns-then-not-at_most c = rw (sym c.at_most.ensures ∙ c.if-not-at_most.true)

pub returns-then-not-is_within : goal.returns-then-not-is_within
unfolding first_broken axis_limits
returns-then-not-is_within c = rw (sym c.at_most.ensures ∙ c.if-not-at_most.false, sym c.is_within.ensures ∙ c.if-not-is_within.true)

pub returns-then-not-is_within-2 : goal.returns-then-not-is_within-2
unfolding first_broken axis_limits
returns-then-not-is_within-2 c = rw (sym c.at_most.ensures ∙ c.if-not-at_most.false, sym c.is_within.ensures ∙ c.if-not-is_within.false, sym c.is_within-2.ensures ∙ c.if-not-is_within-2.true)

pub returns-then-not-is_between : goal.returns-then-not-is_between
unfolding first_broken axis_limits
returns-then-not-is_between c = rw (sym c.at_most.ensures ∙ c.if-not-at_most.false, sym c.is_within.ensures ∙ c.if-not-is_within.false, sym c.is_within-2.ensures ∙ c.if-not-is_within-2.false, sym c.is_between.ensures ∙ c.if-not-is_between.true)

pub returns : goal.returns
unfolding first_broken axis_limits
returns c = rw (sym c.at_most.ensures ∙ c.if-not-at_most.false, sym c.is_within.ensures ∙ c.if-not-is_within.false, sym c.is_within-2.ensures ∙ c.if-not-is_within-2.false, sym c.is_between.ensures ∙ c.if-not-is_between.false)
