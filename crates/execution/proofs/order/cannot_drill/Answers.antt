-- `execution::order::cannot_drill` meets its contract.
use Rattle.terms.proofs.Common.{ap, not, ◌∙◌}
use Rattle.blocks.specs.Exec.{cannot_drill}
use Rattle.execution.proofs.{Small.same_g17}
use Rattle.execution.proofs.order.cannot_drill.Goals as goal

pub returns : goal.returns
unfolding cannot_drill
returns c = λ s e. rw (e, c.drills.ensures, c.ne.ensures ∙ ap not (same_g17 c.args.b.modes.plane))
