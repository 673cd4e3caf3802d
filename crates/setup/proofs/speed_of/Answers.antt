-- `setup::speed_of` meets its contract: the length is the setup's number. `known` is where the setup's own record says that this number
-- fits 64 bits.
use Rattle.terms.proofs.Common.{rules}
use Rattle.setup.proofs.{Raw.of_raw}
use Rattle.setup.proofs.speed_of.Goals as goal

pub returns : goal.returns
returns c =
    let known = c.well_formed.0.1.1.1.1.1.1.1.1.1.1.0 in
    of_raw c.args.s.speed c.of.result (search rules) c.of.ensures
