-- `files::part_names::part_name` meets its contract: the ending fits after a path that is short enough.
use Rattle.terms.proofs.Common.{arith}
use Rattle.files.proofs.{Naming.no_room, Naming.named}
use Rattle.files.proofs.part_names.part_name.Goals as goal

pub returns-then-saturating_sub-le12 : goal.returns-then-saturating_sub-le12
returns-then-saturating_sub-le12 c = let a = c.args in no_room a.path.now a.name.now (omega arith)

pub returns : goal.returns
returns c =
    let a = c.args in
    named a.path.now a.name.now (omega arith) c.put-n.ensures c.put.ensures
