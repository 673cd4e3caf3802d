-- `interpreter::run_blocks` meets its contract.
use Rattle.runs.specs.declared.Budget.TheVariants.{First}
use Rattle.interpreter.proofs.{Starting.owed}
use Rattle.interpreter.proofs.run_blocks.Goals as goal

pub returns : goal.returns
returns c =
    let a = c.args in
    owed a.setup a.bytes.now (First a.n) c.run_within.ensures
