-- `cycles::row_at` meets its contract: by whether a Z stands, and by the place.
use Rattle.std.specs.Prelude.{is_some}
use Rattle.terms.proofs.Common.{ap, sym, ◌∙◌, arith}
use Rattle.cycles.proofs.{Rows.row_flat, Rows.row_first, Rows.row_second, Rows.row_third, Rows.row_left, Rows.row_rest}
use Rattle.cycles.proofs.row_at.Goals as goal

pub returns-in_default : goal.returns-in_default
returns-in_default c =
    row_flat c.args.h c.args.level c.args.p c.args.i (ap is_some c.in_default.is) c.requires c.at_height.ensures

pub returns-then-i-eq0 : goal.returns-then-i-eq0
returns-then-i-eq0 c =
    row_first c.args.h c.args.level c.args.p c.args.i (ap is_some c.in-Some.is) c.if-i-eq0.true c.at_height-then-i-eq0.ensures

pub returns-then-i-eq1 : goal.returns-then-i-eq1
returns-then-i-eq1 c =
    row_second c.args.h c.args.level c.args.p c.args.i (ap is_some c.in-Some.is) c.if-i-eq1.true c.at_height-then-i-eq1.ensures

pub returns-then-i-eq2 : goal.returns-then-i-eq2
returns-then-i-eq2 c =
    row_third c.args.h c.args.level c.args.p c.args.i (ap is_some c.in-Some.is) c.if-i-eq2.true (rw c.in-Some.is c.at_height-then-i-eq2.ensures)

pub row_after_cut-requires : goal.row_after_cut-requires
row_after_cut-requires c =
    row_left c.args.h c.args.level c.args.p c.args.i (ap is_some c.in-Some.is) (omega arith) c.requires

pub returns : goal.returns
returns c =
    row_rest c.args.h c.args.level c.args.p c.args.i (ap is_some c.in-Some.is) (omega arith) c.row_after_cut.ensures
