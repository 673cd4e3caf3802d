-- `work::testing::with_brief` meets its contract: by which record it is.
use Rattle.terms.proofs.Common.{arith, refl, sym, ◌∙◌}
use Rattle.records.specs.Path.{path_of, path_end}
use Rattle.work.specs.Work.{brief_records}
use Rattle.work.proofs.{Extents.grown_none, Extents.grown_one, Briefs.grown_mark}
use borrow.Enum.Refused.{opened}
use Rattle.work.proofs.testing.with_brief.Goals as goal

pub returns-in_default : goal.returns-in_default
unfolding brief_records
returns-in_default c = rw c.in_default.is (sym (grown_none c.args.e))

pub returns-in-Speed : goal.returns-in-Speed
unfolding brief_records path_end path_of
returns-in-Speed c = c.longer.ensures ∙ rw (c.in-Some.is, c.in-Speed.is) (grown_one c.args.e _ refl c.kind_length.ensures)

pub returns-in_default-brief : goal.returns-in_default-brief
returns-in_default-brief c =
    c.longer-in_default-brief.ensures ∙ rw c.in-Some.is (grown_mark c.args.e c.in-Some.brief (opened c.in_default-brief.in_default-brief-own.keys2) c.kind_length-in_default-brief.ensures)

pub longer-requires : goal.longer-requires
longer-requires c = (c.requires, omega (arith, c.kind_length.ensures))

pub longer-requires-in_default-brief : goal.longer-requires-in_default-brief
longer-requires-in_default-brief c = (c.requires, omega (arith, c.kind_length-in_default-brief.ensures))
