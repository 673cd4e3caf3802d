-- `centres::scaled_root` meets its contract: the root of the share, with the sign of q.
use Rattle.terms.proofs.Common.{◌≤◌, ◌≡◌, sym, ap, ◌∙◌, mul-le-mul, arith, pos, le_z}
use Rattle.lengths.specs.Units.{len}
use Rattle.centres.proofs.{Computing.root_small, Computing.root_up, Computing.root_exact, Computing.root_down}
use Rattle.centres.proofs.scaled_root.Goals as goal

pub returns-then-at_most : goal.returns-then-at_most
returns-then-at_most c =
    let small : c.root_of-m.result ≤ 2_000_000_000 = root_small c.args.share c.requires c.root_of-m.result c.root_of-m.ensures in
    let up_is : c.at_most.result ≡ le_z (pos 0) c.args.q.v = rw c.zero.ensures.is at c.at_most.ensures in
    record {
      near = omega (arith, small);
      is =
          λ n d k.
          c.of_count.ensures.is
          ∙ ap len
          (root_up c.args.share c.requires c.root_of-m.result c.root_of-m.ensures c.args.q.v n d k
          (sym up_is ∙ c.if-at_most.true));
    }

pub returns-then-share-m : goal.returns-then-share-m
returns-then-share-m c =
    let small : c.root_of-m.result ≤ 2_000_000_000 = root_small c.args.share c.requires c.root_of-m.result c.root_of-m.ensures in
    let up_is : c.at_most.result ≡ le_z (pos 0) c.args.q.v = rw c.zero.ensures.is at c.at_most.ensures in
    record {
      near = omega (arith, small);
      is =
          λ n d k.
          rw (c.negated.ensures.is, c.of_count-then-share-m.ensures.is)
          (ap len
          (root_exact c.args.share c.requires c.root_of-m.result c.root_of-m.ensures c.args.q.v n d k
          (sym up_is ∙ c.if-at_most.false) c.if-share-m.true));
    }

pub returns : goal.returns
returns c =
    let small : c.root_of-m.result ≤ 2_000_000_000 = root_small c.args.share c.requires c.root_of-m.result c.root_of-m.ensures in
    let up_is : c.at_most.result ≡ le_z (pos 0) c.args.q.v = rw c.zero.ensures.is at c.at_most.ensures in
    record {
      near = omega (arith, small);
      is =
          λ n d k.
          rw (c.negated-2.ensures.is, c.of_count-2.ensures.is)
          (ap len
          (root_down c.args.share c.requires c.root_of-m.result c.root_of-m.ensures c.args.q.v n d k
          (sym up_is ∙ c.if-at_most.false) c.if-share-m.false));
    }

pub of_count-requires : goal.of_count-requires
of_count-requires c =
    let small : c.root_of-m.result ≤ 2_000_000_000 = root_small c.args.share c.requires c.root_of-m.result c.root_of-m.ensures in
    omega (arith, small)

pub overflow_mul-m : goal.overflow_mul-m
overflow_mul-m c =
    let small : c.root_of-m.result ≤ 2_000_000_000 = root_small c.args.share c.requires c.root_of-m.result c.root_of-m.ensures in
    let k = small in omega (arith, mul-le-mul k k)

pub of_count-requires-then-share-m : goal.of_count-requires-then-share-m
of_count-requires-then-share-m c =
    let small : c.root_of-m.result ≤ 2_000_000_000 = root_small c.args.share c.requires c.root_of-m.result c.root_of-m.ensures in
    omega (arith, small)

pub overflow_add-m : goal.overflow_add-m
overflow_add-m c =
    let small : c.root_of-m.result ≤ 2_000_000_000 = root_small c.args.share c.requires c.root_of-m.result c.root_of-m.ensures in
    omega (arith, small)

pub of_count-requires-2 : goal.of_count-requires-2
of_count-requires-2 c =
    let small : c.root_of-m.result ≤ 2_000_000_000 = root_small c.args.share c.requires c.root_of-m.result c.root_of-m.ensures in
    omega (arith, small)
