-- `work::planning::cycle_work` meets its contract: by whether the cycle is done.
use Rattle.terms.proofs.Common.{refl, ap, not}
use Rattle.work.proofs.{Plans.cycle_rests, Plans.cycle_passes}
use Rattle.work.proofs.planning.cycle_work.Goals as goal

pub returns-then-not-cycle_done : goal.returns-then-not-cycle_done
returns-then-not-cycle_done c =
    let a = c.args in
    cycle_rests a.cycle a.named a.s a.origin a.v c.cycle_done.ensures (ap not c.if-not-cycle_done.true) c.no_work.ensures

pub hole_of-h-requires : goal.hole_of-h-requires
hole_of-h-requires c = record { height = c.requires.0.aims.origin.z; kept = c.requires.0.kept }

pub pass_count-requires : goal.pass_count-requires
pass_count-requires c = c.requires.1.k c.args.cycle refl

pub returns : goal.returns
returns c =
    let a = c.args in
    cycle_passes a.cycle a.named a.s a.origin a.v c.cycle_done.ensures (ap not c.if-not-cycle_done.false) c.hole_of-h.ensures c.pass_count.ensures c.levels_hold.ensures
