-- `work::planning::straight_work` meets its contract: by whether a word of the end stands.
use Rattle.terms.proofs.Common.{ap, not}
use Rattle.work.proofs.{Plans.straight_rests, Plans.straight_cuts, Plans.straight_moves}
use Rattle.work.proofs.planning.straight_work.Goals as goal

pub returns-then-not-end_stands : goal.returns-then-not-end_stands
returns-then-not-end_stands c =
    let a = c.args in
    straight_rests a.s a.origin a.v c.end_stands.ensures a.cuts (ap not c.if-not-end_stands.true) c.no_work.ensures

pub returns-then-cuts : goal.returns-then-cuts
returns-then-cuts c =
    let a = c.args in
    straight_cuts a.s a.origin a.v c.end_stands.ensures a.cuts (ap not c.if-not-end_stands.false) c.target_point-end.ensures.is c.if-cuts.true c.one_work.ensures

pub returns : goal.returns
returns c =
    let a = c.args in
    straight_moves a.s a.origin a.v c.end_stands.ensures a.cuts (ap not c.if-not-end_stands.false) c.target_point-end.ensures.is c.if-cuts.false c.one_work-2.ensures
