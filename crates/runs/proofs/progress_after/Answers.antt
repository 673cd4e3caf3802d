-- `runs::progress_after` meets its contract.
use Rattle.runs.specs.Serving.{progress_by}
use Rattle.runs.proofs.progress_after.Goals as goal

pub returns : goal.returns
unfolding progress_by
returns c = rw c.one_less.ensures
