-- `files::names::same_file` meets its contract.
use Rattle.terms.proofs.Common.{eq-eqb, ne_eqb}
use Rattle.files.specs.Names.{same_file, same_found}
use Rattle.files.proofs.names.same_file.Goals as goal

pub returns-then-x-y : goal.returns-then-x-y
unfolding same_file same_found
returns-then-x-y c =
    rw (c.in-Ok-Ok.is-0, c.in-Ok-Ok.is-1, eq-eqb c.in-Ok-Ok.x.device c.in-Ok-Ok.y.device c.if-x-y.true)

pub returns-else-x-y : goal.returns-else-x-y
unfolding same_file same_found
returns-else-x-y c =
    rw (c.in-Ok-Ok.is-0, c.in-Ok-Ok.is-1, ne_eqb c.in-Ok-Ok.x.device c.in-Ok-Ok.y.device c.if-x-y.false)

pub returns-in_default : goal.returns-in_default
unfolding same_file same_found
returns-in_default c = rw (c.in_default.is-0, c.in_default.is-1)

pub returns-in_default-2 : goal.returns-in_default-2
unfolding same_file same_found
returns-in_default-2 c = rw c.in_default.is-0
