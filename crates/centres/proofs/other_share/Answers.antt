-- `centres::other_share` meets its contract.
use Rattle.terms.proofs.Common.{arith}
use Rattle.centres.proofs.{Computing.part_most, Computing.part_less, Computing.parted_exact, Computing.parted_rest}
use Rattle.centres.proofs.other_share.Goals as goal

pub overflow_sub-left : goal.overflow_sub-left
overflow_sub-left c =
    part_most c.args.n c.args.d c.args.share c.requires

pub returns-then-share-eq0 : goal.returns-then-share-eq0
returns-then-share-eq0 c =
    parted_exact c.args.n c.args.d c.args.share c.requires c.if-share-eq0.true

pub overflow_sub-result : goal.overflow_sub-result
overflow_sub-result c =
    omega (arith, part_less c.args.n c.args.d c.args.share c.requires c.if-share-eq0.false)

pub returns : goal.returns
returns c =
    parted_rest c.args.n c.args.d c.args.share c.requires c.if-share-eq0.false
