-- `centres::across` meets its contract.
use Rattle.terms.proofs.Common.{rules}
use Rattle.centres.specs.Centres.{across}
use Rattle.centres.proofs.across.Goals as goal

pub negated-requires : goal.negated-requires
unfolding across
negated-requires c = search rules

pub returns-then-left : goal.returns-then-left
unfolding across
returns-then-left c = rw (c.negated.ensures.is, c.if-left.true)

pub negated-requires-2 : goal.negated-requires-2
unfolding across
negated-requires-2 c = search rules

pub returns : goal.returns
unfolding across
returns c = rw (c.negated-2.ensures.is, c.if-left.false)
