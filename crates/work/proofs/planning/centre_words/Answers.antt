-- `work::planning::centre_words` meets its contract.
use Rattle.blocks.specs.Motions.{centre_words}
use Rattle.work.proofs.planning.centre_words.Goals as goal

pub returns : goal.returns
unfolding centre_words
returns c =
    rw (c.unwrap_or.ensures, c.unwrap_or-2.ensures, c.unwrap_or-3.ensures, c.zero.ensures.is, c.zero-2.ensures.is, c.zero-3.ensures.is)
