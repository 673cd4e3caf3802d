-- `execution::effects::spindle_record` meets its contract.
use Rattle.terms.proofs.Common.{◌∙◌}
use Rattle.execution.proofs.{Small.is_three, Small.spindle_one, Small.spindle_none}
use Rattle.execution.proofs.effects.spindle_record.Goals as goal

pub returns-then-s-is_some : goal.returns-then-s-is_some
returns-then-s-is_some c =
    spindle_one c.args.s c.args.b (c.eq.ensures ∙ is_three c.args.b.misc) c.requires (rw c.is_some.ensures at c.if-s-is_some.true)

pub returns : goal.returns
returns c =
    spindle_none c.args.s c.args.b (c.eq.ensures ∙ is_three c.args.b.misc) (rw c.is_some.ensures at c.if-s-is_some.false)
