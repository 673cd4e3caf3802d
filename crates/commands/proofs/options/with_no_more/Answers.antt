-- `commands::options::with_no_more` meets its contract.
use Rattle.terms.proofs.Common.{◌∙◌}
use Rattle.commands.proofs.{Choosing.no_more_left, Choosing.more_left}
use Rattle.commands.proofs.options.with_no_more.Goals as goal

pub returns-then-count-k : goal.returns-then-count-k
returns-then-count-k c =
    let a = c.args in
    no_more_left a.line.now a.count a.options c.if-count-k.true

pub returns : goal.returns
returns c =
    let a = c.args in
    c.wrong.ensures ∙ more_left a.line.now a.count a.options c.if-count-k.false
