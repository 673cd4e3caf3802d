-- `setup::faults::place_fault` meets its contract: its tests are the limits, in order.
use Rattle.terms.proofs.Common.{sym, ◌∙◌}
use Rattle.setup.specs.Faults.{first_broken, place_limits}
use Rattle.setup.proofs.faults.place_fault.Goals as goal

pub returns-then-not-is_within : goal.returns-then-not-is_within
unfolding first_broken place_limits
returns-then-not-is_within c = rw (sym c.is_within.ensures ∙ c.if-not-is_within.true)

pub returns-then-not-is_within-2 : goal.returns-then-not-is_within-2
unfolding first_broken place_limits
returns-then-not-is_within-2 c = rw (sym c.is_within.ensures ∙ c.if-not-is_within.false, sym c.is_within-2.ensures ∙ c.if-not-is_within-2.true)

pub returns-then-not-is_within-3 : goal.returns-then-not-is_within-3
unfolding first_broken place_limits
returns-then-not-is_within-3 c = rw (sym c.is_within.ensures ∙ c.if-not-is_within.false, sym c.is_within-2.ensures ∙ c.if-not-is_within-2.false, sym c.is_within-3.ensures ∙ c.if-not-is_within-3.true)

pub returns : goal.returns
unfolding first_broken place_limits
returns c = rw (sym c.is_within.ensures ∙ c.if-not-is_within.false, sym c.is_within-2.ensures ∙ c.if-not-is_within-2.false, sym c.is_within-3.ensures ∙ c.if-not-is_within-3.false)
