-- `cycles::row_count` meets its contract: by whether a Z and a P stand.
use Rattle.terms.proofs.Common.{sym, ◌∙◌, ap, not}
use Rattle.cycles.proofs.{Rows.length_flat, Rows.length_dwell, Rows.length_deep}
use Rattle.cycles.proofs.row_count.Goals as goal

pub returns-then-is_none : goal.returns-then-is_none
returns-then-is_none c = let h = c.args.h in length_flat h (c.is_none.ensures ∙ ap not c.if-is_none.true)

pub returns-then-is_some : goal.returns-then-is_some
returns-then-is_some c =
    let h = c.args.h in
    length_dwell h (c.is_none.ensures ∙ ap not c.if-is_none.false) c.up_count.ensures (sym c.is_some.ensures ∙ c.if-is_some.true)

pub returns : goal.returns
returns c =
    let h = c.args.h in
    length_deep h (c.is_none.ensures ∙ ap not c.if-is_none.false) c.up_count-2.ensures (sym c.is_some.ensures ∙ c.if-is_some.false)
