-- `svg::quarters::quarter_on` meets its contract: axes exchanged, one of them negated.
use Rattle.terms.proofs.Common.{arith}
use Rattle.svg.specs.Turns.{quarter_on}
use Rattle.svg.proofs.quarters.quarter_on.Goals as goal

pub returns-then-turn : goal.returns-then-turn
unfolding quarter_on
returns-then-turn c =
    (rw (c.if-turn.true, c.negated.ensures.is), record { first = omega arith; second = omega arith })

pub returns : goal.returns
unfolding quarter_on
returns c =
    (rw (c.if-turn.false, c.negated-2.ensures.is), record { first = omega arith; second = omega arith })
