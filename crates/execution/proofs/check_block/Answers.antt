-- `execution::check_block` meets its contract: 3, then 4 for a cycle, then its path.
use Rattle.terms.proofs.Common.{refl, ◌∙◌}
use Rattle.refusals.specs.declared.Refusal.TheVariants.{ParameterUndefined, CannotExecute}
use Rattle.blocks.{specs.Machine.machine_of, specs.Exec.call_to, specs.Exec.control_of, specs.Calling.freely, proofs.Calling.free_known, proofs.Calling.free_level}
use Rattle.execution.proofs.Verdicts.{does_refused, does_as, lacks_past, lacks_stops, calls_past, drill_past, drill_stops}
use Rattle.execution.proofs.check_block.Goals as goal

pub returns-then-lacks_parameter : goal.returns-then-lacks_parameter
returns-then-lacks_parameter c =
    let a = c.args in
    λ left ws. does_refused (record { refusal = ParameterUndefined; byte = a.start }) (lacks_stops (machine_of a.bed) (freely left) _ a.s a.start ws a.b c.lacks_parameter.ensures c.if-lacks_parameter.true)

pub returns-then-cannot_drill : goal.returns-then-cannot_drill
returns-then-cannot_drill c =
    let a = c.args in
    let m = machine_of a.bed in
    let call = call_to (control_of a.b) in
    λ left ws.
    let free = freely left in
    does_refused (record { refusal = CannotExecute; byte = a.start })
    (lacks_past m free _ a.s a.start ws a.b c.lacks_parameter.ensures c.if-lacks_parameter.false
    ∙ calls_past m free _ a.s a.start ws a.b (free_known left call) (free_level left call)
    ∙ drill_stops m free _ a.s a.start ws a.b (c.cannot_drill.ensures a.s (rw c.working-works.ensures)) c.if-cannot_drill.true)

pub plan_block-planned-requires : goal.plan_block-planned-requires
plan_block-planned-requires c = (c.requires.steady, c.working-works.ensures)

pub write_block-requires : goal.write_block-requires
write_block-requires c = record { at_in_bounds = c.requires.at_in_bounds; able = record { s = c.args.s; b = c.args.b; plans = c.plan_block-planned.ensures } }

pub returns : goal.returns
returns c =
    let a = c.args in
    let m = machine_of a.bed in
    let call = call_to (control_of a.b) in
    λ left ws.
    let free = freely left in
    does_as
    (lacks_past m free _ a.s a.start ws a.b c.lacks_parameter.ensures c.if-lacks_parameter.false
    ∙ calls_past m free _ a.s a.start ws a.b (free_known left call) (free_level left call)
    ∙ drill_past m free _ a.s a.start ws a.b (c.cannot_drill.ensures a.s (rw c.working-works.ensures)) c.if-cannot_drill.false)
    (c.write_block.ensures a.s a.b c.plan_block-planned.ensures refl left ws)
