-- `drawing::picture::draw` meets its contract: the setup, then the list, then the room.
use Rattle.terms.proofs.Common.{sym, ◌∙◌}
use Rattle.drawing.proofs.{Fitting.draws_faulty, Fitting.draws_whole, Fitting.fits_is, Fitting.fits_not}
use Rattle.drawing.proofs.picture.draw.Goals as goal

pub returns-in-Faulty : goal.returns-in-Faulty
returns-in-Faulty c =
    let x = c.args in
    draws_faulty x.list.now x.s x.out.now (sym c.is_valid.ensures ∙ c.if-not-is_valid.false) (sym c.in-Faulty.ensures)

pub returns-then-n-out : goal.returns-then-n-out
returns-then-n-out c =
    let x = c.args in
    let put = rw c.sheet_of.ensures.0 at c.put_picture-n.ensures in
    draws_whole x.list.now x.s (sym c.is_valid.ensures ∙ c.if-not-is_valid.false) (λ fault place e. c.in_default.not-Faulty fault place (c.last_of.ensures ∙ e)) (fits_is put c.if-n-out.true) put.bytes

pub returns-else-n-out : goal.returns-else-n-out
returns-else-n-out c =
    let x = c.args in
    let put = rw c.sheet_of.ensures.0 at c.put_picture-n.ensures in
    draws_whole x.list.now x.s (sym c.is_valid.ensures ∙ c.if-not-is_valid.false) (λ fault place e. c.in_default.not-Faulty fault place (c.last_of.ensures ∙ e)) (fits_not put c.if-n-out.false) put.bytes
