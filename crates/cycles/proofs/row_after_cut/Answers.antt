-- `cycles::row_after_cut` meets its contract: by whether a P stands, and by the place.
use Rattle.std.specs.Prelude.{is_some}
use Rattle.terms.proofs.Common.{ap}
use Rattle.words.specs.Values.{worth}
use Rattle.cycles.proofs.{Rows.up_there, Rows.after_up, Rows.after_dwell, Rows.up_left, Rows.after_rest}
use Rattle.cycles.proofs.row_after_cut.Goals as goal

pub row_up-requires : goal.row_up-requires
row_up-requires c =
    up_there c.args.h c.args.p c.args.i (ap is_some c.in_default.is) c.requires

pub returns-in_default : goal.returns-in_default
returns-in_default c =
    after_up c.args.h c.args.p c.args.i (ap is_some c.in_default.is) c.row_up.ensures

pub returns-then-i-eq0 : goal.returns-then-i-eq0
returns-then-i-eq0 c =
    rw (← ap worth c.in-Some.is) (after_dwell c.args.h c.args.p c.args.i (ap is_some c.in-Some.is) c.if-i-eq0.true)

pub row_up-requires-2 : goal.row_up-requires-2
row_up-requires-2 c =
    up_left c.args.h c.args.p c.args.i (ap is_some c.in-Some.is) c.if-i-eq0.false c.requires

pub returns : goal.returns
returns c =
    after_rest c.args.h c.args.p c.args.i (ap is_some c.in-Some.is) c.if-i-eq0.false c.row_up-2.ensures
