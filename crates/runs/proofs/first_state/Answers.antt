-- `runs::first_state` meets its contract.
use Rattle.terms.proofs.Common.{◌∙◌}
use Rattle.runs.specs.Run.{first_of}
use Rattle.runs.proofs.first_state.Goals as goal

pub returns : goal.returns
unfolding first_of
returns c =
    c.first_state.ensures
    ∙ rw (c.start_of-start.ensures, c.feed_of.ensures, c.speed_of.ensures)
