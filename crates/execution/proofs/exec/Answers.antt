-- `execution::exec` meets its contract: what is read of the block is refused, or checked.
use Rattle.std.proofs.lemmas.Result.{err_from_is_err_and}
use Rattle.terms.proofs.Common.{◌∙◌}
use Rattle.execution.specs.BlockReading.{BlockSays}
use Rattle.execution.proofs.{Verdicts.does_refused, Verdicts.does_as}
use Rattle.execution.proofs.exec.Goals as goal

pub next_block-after-requires : goal.next_block-after-requires
next_block-after-requires c =
    let says : let a = c.args in BlockSays a.footing.bed a.footing.left a.state a.s.now a.spot.from c.in_ok-read.read.said c.in_ok-read.read.end = rw c.in_ok-read.was at c.read_block.ensures in
    says.inside

pub check_block-requires : goal.check_block-requires
check_block-requires c =
    let says : let a = c.args in BlockSays a.footing.bed a.footing.left a.state a.s.now a.spot.from c.in_ok-read.read.said c.in_ok-read.read.end = rw c.in_ok-read.was at c.read_block.ensures in
    record { at_in_bounds = c.requires.at_in_bounds; steady = says.steady }

pub returns-in_err-read : goal.returns-in_err-read
returns-in_err-read c =
    let p = err_from_is_err_and c.from_residual.result c.from_residual.ensures.1 in
    let was = rw c.in_err-read.was at c.read_block.ensures in
    rw (p.1, p.2) (does_refused _ (was _ c.args.spot.start))

pub returns : goal.returns
returns c =
    let a = c.args in
    let says : BlockSays a.footing.bed a.footing.left a.state a.s.now a.spot.from c.in_ok-read.read.said c.in_ok-read.read.end = rw c.in_ok-read.was at c.read_block.ensures in
    does_as (says.goes _ a.spot.start) (rw (c.next_block-after.ensures ∙ says.block) at (c.check_block.ensures a.footing.left says.ws))
