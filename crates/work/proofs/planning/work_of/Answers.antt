-- `work::planning::work_of` meets its contract: by the code of the block.
use Rattle.words.specs.Values.{worth}
use Rattle.terms.proofs.Common.{refl, true, inl, inr}
use Rattle.records.specs.declared.Record.TheVariants.{DW}
use Rattle.blocks.specs.Motions.{moves_of}
use Rattle.work.proofs.{Plans.makes_none, Plans.makes_one}
use Rattle.work.proofs.planning.work_of.Goals as goal

pub motion_work-requires : goal.motion_work-requires
motion_work-requires c = (c.requires.0, rw c.in-Moving.is at c.requires.1)

pub returns-in-Calling : goal.returns-in-Calling
unfolding moves_of
returns-in-Calling c =
    elim c.in-Calling.is [ inl e ↦ rw e (makes_none true c.no_work.ensures refl) | inr e ↦ rw e (makes_none true c.no_work.ensures refl) ]

pub returns-in-Dwelling : goal.returns-in-Dwelling
unfolding moves_of
returns-in-Dwelling c =
    rw c.in-Dwelling.is (makes_one true (DW (worth c.args.v.p)) (rw (c.unwrap_or.ensures, c.zero.ensures.is) at c.one_work.ensures) refl tt)

pub returns-in-Moving : goal.returns-in-Moving
unfolding moves_of
returns-in-Moving c = rw c.in-Moving.is c.motion_work.ensures
