-- `setup::faults::number_fault` meets its contract: its tests are the limits, in order.
use Rattle.terms.proofs.Common.{sym, ◌∙◌}
use Rattle.setup.specs.Faults.{first_broken, number_limits}
use Rattle.setup.proofs.faults.number_fault.Goals as goal

pub returns-then-not-feed_fits : goal.returns-then-not-feed_fits
unfolding first_broken number_limits
returns-then-not-feed_fits c = rw (sym c.feed_fits.ensures ∙ c.if-not-feed_fits.true)

pub returns-then-not-range_fits : goal.returns-then-not-range_fits
unfolding first_broken number_limits
returns-then-not-range_fits c = rw (sym c.feed_fits.ensures ∙ c.if-not-feed_fits.false, sym c.range_fits.ensures ∙ c.if-not-range_fits.true)

pub returns-then-not-speed_fits : goal.returns-then-not-speed_fits
unfolding first_broken number_limits
returns-then-not-speed_fits c = rw (sym c.feed_fits.ensures ∙ c.if-not-feed_fits.false, sym c.range_fits.ensures ∙ c.if-not-range_fits.false, sym c.speed_fits.ensures ∙ c.if-not-speed_fits.true)

pub returns-then-not-switch_fits : goal.returns-then-not-switch_fits
unfolding first_broken number_limits
returns-then-not-switch_fits c = rw (sym c.feed_fits.ensures ∙ c.if-not-feed_fits.false, sym c.range_fits.ensures ∙ c.if-not-range_fits.false, sym c.speed_fits.ensures ∙ c.if-not-speed_fits.false, sym c.switch_fits.ensures ∙ c.if-not-switch_fits.true)

pub returns : goal.returns
unfolding first_broken number_limits
returns c = rw (sym c.feed_fits.ensures ∙ c.if-not-feed_fits.false, sym c.range_fits.ensures ∙ c.if-not-range_fits.false, sym c.speed_fits.ensures ∙ c.if-not-speed_fits.false, sym c.switch_fits.ensures ∙ c.if-not-switch_fits.false)
