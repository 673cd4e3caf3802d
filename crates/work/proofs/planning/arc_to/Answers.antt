-- `work::planning::arc_to` meets its contract.
use Rattle.terms.proofs.Common.{rules}
use Rattle.blocks.specs.Motions.{arc_to}
use Rattle.work.proofs.planning.arc_to.Goals as goal

pub centre_for-centre-requires : goal.centre_for-centre-requires
unfolding arc_to
centre_for-centre-requires c = search rules

pub returns : goal.returns
unfolding arc_to
returns c = rw c.centre_for-centre.ensures
