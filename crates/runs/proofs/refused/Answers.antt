-- `runs::refused` meets its contract.
use Rattle.runs.proofs.{Starting.stands_at_start}
use Rattle.runs.proofs.refused.Goals as goal

pub returns : goal.returns
returns c =
    let a = c.args in
    stands_at_start a.setup a.refusal a.place c.point_of-start.ensures c.feed_of.ensures c.speed_of.ensures c.first_state-state.ensures
