-- `lengths::Len::halved` meets its contract: half of the key, less half of 2 ^ 63.
use Rattle.terms.proofs.Common.{arith}
use Rattle.lengths.specs.Units.{len, halved}
use Rattle.lengths.proofs.{Laws.view_len, Laws.halved_over, Laws.halved_under}
use Rattle.lengths.proofs.Len.halved.Goals as goal

pub returns : goal.returns
returns c =
    let z = c.args.self.v in
    view_len _ (len (halved z)) (omega (arith, c.minus.ensures.bal, halved_over z, halved_under z))
