-- `commands::options::first_options` meets its contract.
use Rattle.terms.proofs.Common.{◌∙◌}
use Rattle.commands.proofs.{Choosing.first_listed, Choosing.first_unlisted}
use Rattle.commands.proofs.options.first_options.Goals as goal

pub returns-then-listed : goal.returns-then-listed
returns-then-listed c = c.no_options.ensures ∙ first_listed c.args.listed c.if-listed.true

pub returns : goal.returns
returns c = c.no_options-2.ensures ∙ first_unlisted c.args.listed c.if-listed.false
