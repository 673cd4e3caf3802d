-- `work::planning::motion_work` meets its contract: by the code that is on.
use Rattle.terms.proofs.Common.{sym, ◌∙◌, true}
use Rattle.blocks.specs.Motions.{motion_of}
use Rattle.work.specs.Work.{straight_record}
use Rattle.work.proofs.{Plans.makes_none, Plans.motion_turns, Plans.motion_rests}
use Rattle.work.proofs.planning.motion_work.Goals as goal

pub returns-then-turns : goal.returns-then-turns
returns-then-turns c =
    let a = c.args in
    rw (motion_turns a.s a.origin a.v a.named a.motion (sym c.turns.ensures ∙ c.if-turns.true) c.is_clockwise-clockwise.ensures c.lies_left.ensures) c.arc_work.ensures

pub cycle_work-requires : goal.cycle_work-requires
cycle_work-requires c = (c.requires.0, rw c.in-Drilling.is at c.requires.1)

pub returns-in-G00 : goal.returns-in-G00
unfolding motion_of straight_record
returns-in-G00 c = rw c.in-G00.is c.straight_work.ensures

pub returns-in-G01 : goal.returns-in-G01
unfolding motion_of straight_record
returns-in-G01 c = rw c.in-G01.is c.straight_work-in-G01.ensures

pub returns-in-Drilling : goal.returns-in-Drilling
returns-in-Drilling c = rw c.in-Drilling.is c.cycle_work.ensures

pub returns-in_default : goal.returns-in_default
returns-in_default c =
    let a = c.args in
    makes_none true c.no_work.ensures (motion_rests a.s a.origin a.v a.named a.motion c.in_default.in_default-own.keys4 (sym c.turns.ensures ∙ c.if-turns.false))

pub arc_work-requires : goal.arc_work-requires
arc_work-requires c = c.requires.0

pub straight_work-requires : goal.straight_work-requires
straight_work-requires c = c.requires.0.aims

pub straight_work-requires-in-G01 : goal.straight_work-requires-in-G01
straight_work-requires-in-G01 c = c.requires.0.aims
