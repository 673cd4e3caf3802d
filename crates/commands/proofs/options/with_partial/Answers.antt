-- `commands::options::with_partial` meets its contract.
use Rattle.terms.proofs.Common.{◌∙◌}
use Rattle.commands.proofs.{Choosing.partial_twice, Choosing.partial_once}
use Rattle.commands.proofs.options.with_partial.Goals as goal

pub returns-then-options : goal.returns-then-options
returns-then-options c =
    c.given_twice.ensures ∙ partial_twice c.args.options c.if-options.true

pub returns : goal.returns
returns c = partial_once c.args.options c.if-options.false
