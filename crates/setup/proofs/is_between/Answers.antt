-- `setup::is_between` meets its contract: its two tests are the definition's.
use Rattle.setup.proofs.is_between.Goals as goal

pub returns : goal.returns
returns c = rw (c.at_most.ensures, c.at_most-2.ensures)
