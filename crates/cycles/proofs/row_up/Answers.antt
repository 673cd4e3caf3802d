-- `cycles::row_up` meets its contract: by the place, and then by the code that is on.
use Rattle.terms.proofs.Common.{⊎_elim}
use Rattle.cycles.proofs.{Rows.up_second, Rows.up_first, Rows.begins_81, Rows.begins_82, Rows.begins_85, Rows.begins_89}
use Rattle.cycles.proofs.row_up.Goals as goal

pub returns-then-i-eq1 : goal.returns-then-i-eq1
returns-then-i-eq1 c =
    up_second c.args.h c.args.p c.args.h.cycle c.if-i-eq1.true c.requires c.at_height.ensures

pub returns-in-G81 : goal.returns-in-G81
returns-in-G81 c =
    let a = c.args in
    up_first a.h a.p a.h.cycle a.i c.requires c.if-i-eq1.false
    (⊎_elim
    (λ e. begins_81 a.h a.p e c.return_level.ensures c.at_height-in-G81.ensures)
    (λ e. begins_82 a.h a.p e c.return_level.ensures c.at_height-in-G81.ensures)
    c.in-G81.is)

pub returns-in-G85 : goal.returns-in-G85
returns-in-G85 c =
    let a = c.args in
    up_first a.h a.p a.h.cycle a.i c.requires c.if-i-eq1.false
    (⊎_elim
    (λ e. begins_85 a.h a.p e c.at_height-in-G85.ensures)
    (λ e. begins_89 a.h a.p e c.at_height-in-G85.ensures)
    c.in-G85.is)
