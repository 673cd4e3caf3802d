-- `work::testing::check_record` meets its contract: one record leads where it leads.
use Rattle.terms.proofs.Common.{arith, ◌∙◌, ap, not-true, not-false, not, Some}
use Rattle.records.proofs.Moved.{kind_few}
use Rattle.work.proofs.{Extents.one_leaves, Extents.one_ends}
use Rattle.work.proofs.testing.check_record.Goals as goal

pub returns-then-not-path_stays : goal.returns-then-not-path_stays
returns-then-not-path_stays c =
    let a = c.args in
    one_leaves a.t a.e a.r (rw c.path_stays.ensures at (not-true c.path_stays.result (ap not c.if-not-path_stays.true)))

pub longer-requires : goal.longer-requires
longer-requires c = (c.requires.1, omega (arith, c.room.ensures, kind_few c.args.r))

pub returns : goal.returns
returns c =
    let a = c.args in
    ap Some c.longer.ensures
    ∙ one_ends a.t a.e a.r (rw c.path_stays.ensures at (not-false c.path_stays.result (ap not c.if-not-path_stays.false)))
    c.path_end.ensures c.room.ensures

pub path_stays-requires : goal.path_stays-requires
path_stays-requires c = c.requires.0
