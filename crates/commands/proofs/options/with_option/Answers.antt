-- `commands::options::with_option` meets its contract: the name says which option it is.
use Rattle.terms.proofs.Common.{sym, ◌∙◌}
use Rattle.commands.proofs.{Choosing.option_blocks, Choosing.option_room, Choosing.option_partial, Choosing.option_other}
use Rattle.commands.proofs.options.with_option.Goals as goal

pub returns-then-is : goal.returns-then-is
returns-then-is c =
    let a = c.args in
    c.with_blocks.ensures ∙ option_blocks a.name.now a.number.now a.options (sym c.is.ensures ∙ c.if-is.true)

pub returns-then-is-2 : goal.returns-then-is-2
returns-then-is-2 c =
    let a = c.args in
    c.with_room.ensures
    ∙ option_room a.name.now a.number.now a.options (sym c.is.ensures ∙ c.if-is.false) (sym c.is-2.ensures ∙ c.if-is-2.true)

pub returns-then-is-3 : goal.returns-then-is-3
returns-then-is-3 c =
    let a = c.args in
    c.with_partial.ensures
    ∙ option_partial a.name.now a.number.now a.options (sym c.is.ensures ∙ c.if-is.false) (sym c.is-2.ensures ∙ c.if-is-2.false) (sym c.is-3.ensures ∙ c.if-is-3.true)

pub returns : goal.returns
returns c =
    let a = c.args in
    c.wrong.ensures
    ∙ option_other a.name.now a.number.now a.options (sym c.is.ensures ∙ c.if-is.false) (sym c.is-2.ensures ∙ c.if-is-2.false) (sym c.is-3.ensures ∙ c.if-is-3.false)
