-- `work::testing::work_fits` meets its contract: by the kind of the pass.
use Rattle.work.specs.Work.{pass_fits}
use Rattle.work.proofs.testing.work_fits.Goals as goal

pub record_fits-requires : goal.record_fits-requires
record_fits-requires c = (c.requires.0, rw c.in-One.is at c.requires.1)

pub returns-in-One : goal.returns-in-One
unfolding pass_fits
returns-in-One c = rw c.in-One.is c.record_fits.ensures

pub returns-in-Drill : goal.returns-in-Drill
unfolding pass_fits
returns-in-Drill c = rw c.in-Drill.is
