-- `svg::quarters::is_onward` meets its contract: to the left or to the right.
use Rattle.svg.specs.Turns.{onward}
use Rattle.svg.proofs.quarters.is_onward.Goals as goal

pub returns-then-turn : goal.returns-then-turn
unfolding onward
returns-then-turn c =
    rw (c.if-turn.true, c.is_left.ensures)

pub returns : goal.returns
unfolding onward
returns c =
    rw (c.if-turn.false, c.is_left-2.ensures)
