-- `shop::setup_files::known_from` meets its contract.
use Rattle.terms.proofs.Common.{sym, ◌∙◌}
use Rattle.shop.specs.Knowing.{known_by}
use Rattle.shop.proofs.setup_files.known_from.Goals as goal

pub returns-then-not-whole : goal.returns-then-not-whole
unfolding known_by
returns-then-not-whole c = rw c.if-not-whole.true

pub returns-in-Ok : goal.returns-in-Ok
unfolding known_by
returns-in-Ok c = rw (c.if-not-whole.false, sym c.read_setup.ensures ∙ c.in-Ok.is)

pub returns-in-Err : goal.returns-in-Err
unfolding known_by
returns-in-Err c = rw (c.if-not-whole.false, sym c.read_setup.ensures ∙ c.in-Err.is)
