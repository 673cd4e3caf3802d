-- `work::planning::is_larger` meets its contract.
use Rattle.work.proofs.planning.is_larger.Goals as goal

pub returns : goal.returns
returns c = rw (c.below.ensures, c.unwrap_or.ensures, c.zero.ensures.is, c.zero-2.ensures.is)
