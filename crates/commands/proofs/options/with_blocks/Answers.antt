-- `commands::options::with_blocks` meets its contract.
use Rattle.terms.proofs.Common.{sym, ◌∙◌}
use Rattle.texts.specs.Figures.{digits_in}
use Rattle.commands.proofs.{Choosing.digits_known, Choosing.blocks_twice, Choosing.blocks_none, Choosing.blocks_are}
use Rattle.commands.proofs.options.with_blocks.Goals as goal

pub returns-then-is_some : goal.returns-then-is_some
returns-then-is_some c =
    let a = c.args in
    c.given_twice.ensures ∙ sym (blocks_twice a.options (digits_in a.number.now) (sym c.is_some.ensures ∙ c.if-is_some.true))

pub returns-in_default : goal.returns-in_default
returns-in_default c =
    let a = c.args in
    c.wrong.ensures
    ∙ sym (blocks_none a.options (digits_known a.number.now c.digits_at.ensures c.in_default.is))

pub returns : goal.returns
returns c =
    let a = c.args in
    sym
    (blocks_are a.options (digits_known a.number.now c.digits_at.ensures c.in-Some.is) (sym c.is_some.ensures ∙ c.if-is_some.false))
