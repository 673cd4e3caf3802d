-- `interpreter::run` meets its contract.
use Rattle.runs.specs.declared.Budget.TheVariants.{Whole}
use Rattle.interpreter.proofs.{Starting.owed}
use Rattle.interpreter.proofs.run.Goals as goal

pub returns : goal.returns
returns c =
    let a = c.args in
    owed a.setup a.bytes.now Whole c.run_within.ensures
