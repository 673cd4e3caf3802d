-- `commands::options::with_room` meets its contract.
use Rattle.terms.proofs.Common.{sym, ◌∙◌}
use Rattle.texts.specs.Figures.{digits_in}
use Rattle.commands.proofs.{Choosing.digits_known, Choosing.room_twice, Choosing.room_none, Choosing.room_above, Choosing.room_is}
use Rattle.commands.proofs.options.with_room.Goals as goal

pub returns-then-is_some : goal.returns-then-is_some
returns-then-is_some c =
    let a = c.args in
    c.given_twice.ensures ∙ sym (room_twice a.options (digits_in a.number.now) (sym c.is_some.ensures ∙ c.if-is_some.true))

pub returns-in_default : goal.returns-in_default
returns-in_default c =
    let a = c.args in
    c.no_room.ensures
    ∙ sym (room_none a.options (digits_known a.number.now c.digits_at.ensures c.in_default.is))

pub returns-then-n-gt1048576 : goal.returns-then-n-gt1048576
returns-then-n-gt1048576 c =
    let a = c.args in
    c.no_room-then-n-gt1048576.ensures
    ∙ sym
    (room_above a.options (digits_known a.number.now c.digits_at.ensures c.in-Some.is) (sym c.is_some.ensures ∙ c.if-is_some.false) c.if-n-gt1048576.true)

pub returns : goal.returns
returns c =
    let a = c.args in
    sym
    (room_is a.options (digits_known a.number.now c.digits_at.ensures c.in-Some.is) (sym c.is_some.ensures ∙ c.if-is_some.false) c.if-n-gt1048576.false)
