-- `centres::centre_by` meets its contract: a radius that is accepted makes every number of the computation fit.
use Rattle.terms.proofs.Common.{◌-◌, ◌*◌, ◌≡◌, ap, ◌∙◌, arith}
use Rattle.lengths.specs.Units.{sq}
use Rattle.wide.specs.Wide.{worth}
use Rattle.arcs.specs.Turning.{direction}
use Rattle.centres.specs.{Centres.across, Centres.spare, Centres.centre_by, Bounds.Shares}
use Rattle.centres.proofs.{Accepted.chord_most}
use Rattle.centres.proofs.Computing.{radius_most, chord_reach, divides, share_most, share_part, other_shares, Split, chord_split}
use Rattle.centres.proofs.centre_by.Goals as goal

pub squared_distance-d-requires : goal.squared_distance-d-requires
squared_distance-d-requires c =
    chord_reach c.args.r.v c.args.from c.args.to c.requires

pub overflow_mul-n : goal.overflow_mul-n
overflow_mul-n c =
    rw c.square.ensures (omega (arith, radius_most c.args.r.v c.args.from c.args.to c.requires))

pub overflow_sub-n : goal.overflow_sub-n
overflow_sub-n c =
    rw (c.square.ensures, c.squared_distance-d.ensures) (chord_most c.args.r.v c.args.from c.args.to c.requires.holds)

pub divided-first-requires : goal.divided-first-requires
unfolding direction spare
divided-first-requires c =
    let q-is : (let s = c.args in c.across-q.result ≡ across s.left (direction s.from s.to)) = c.across-q.ensures ∙ rw (c.minus-2.ensures.is, c.minus.ensures.is) in
    let n-is : (let s = c.args in
    4 * c.square.result - c.squared_distance-d.result ≡ spare s.r.v s.from s.to) = rw (c.square.ensures, c.squared_distance-d.ensures) in
    let split-here : (Split c.across-q.result (4 * c.square.result - c.squared_distance-d.result) c.squared_distance-d.result) = chord_split c.args.r.v c.args.from c.args.to c.requires c.args.left c.across-q.result
    (4 * c.square.result - c.squared_distance-d.result) c.squared_distance-d.result q-is n-is c.squared_distance-d.ensures in
    let product_is : (worth c.product.result ≡ sq c.across-q.result.first.v * (4 * c.square.result - c.squared_distance-d.result)) = c.product.ensures ∙ ap (◌* (4 * c.square.result - c.squared_distance-d.result)) c.square-2.ensures in
    let w = c.product.result in
    divides c.across-q.result.first.v (4 * c.square.result - c.squared_distance-d.result) c.squared_distance-d.result
    split-here.first w.high w.low product_is

pub other_share-second-requires : goal.other_share-second-requires
unfolding direction spare
other_share-second-requires c =
    let q-is : (let s = c.args in c.across-q.result ≡ across s.left (direction s.from s.to)) = c.across-q.ensures ∙ rw (c.minus-2.ensures.is, c.minus.ensures.is) in
    let n-is : (let s = c.args in
    4 * c.square.result - c.squared_distance-d.result ≡ spare s.r.v s.from s.to) = rw (c.square.ensures, c.squared_distance-d.ensures) in
    let split-here : (Split c.across-q.result (4 * c.square.result - c.squared_distance-d.result) c.squared_distance-d.result) = chord_split c.args.r.v c.args.from c.args.to c.requires c.args.left c.across-q.result
    (4 * c.square.result - c.squared_distance-d.result) c.squared_distance-d.result q-is n-is c.squared_distance-d.ensures in
    let product_is : (worth c.product.result ≡ sq c.across-q.result.first.v * (4 * c.square.result - c.squared_distance-d.result)) = c.product.ensures ∙ ap (◌* (4 * c.square.result - c.squared_distance-d.result)) c.square-2.ensures in
    let first-shares : (Shares c.across-q.result.first.v (4 * c.square.result - c.squared_distance-d.result) c.squared_distance-d.result
    c.divided-first.result) = let e = product_is in
    let k = c.divided-first.ensures in
    record { some = split-here.first.some; whole = rw e at k.whole; left = rw e at k.left } in
    share_part c.across-q.result.first.v (4 * c.square.result - c.squared_distance-d.result) c.squared_distance-d.result
    split-here.first c.divided-first.result first-shares

pub coordinate-requires : goal.coordinate-requires
unfolding direction spare
coordinate-requires c =
    let q-is : (let s = c.args in c.across-q.result ≡ across s.left (direction s.from s.to)) = c.across-q.ensures ∙ rw (c.minus-2.ensures.is, c.minus.ensures.is) in
    let n-is : (let s = c.args in
    4 * c.square.result - c.squared_distance-d.result ≡ spare s.r.v s.from s.to) = rw (c.square.ensures, c.squared_distance-d.ensures) in
    let split-here : (Split c.across-q.result (4 * c.square.result - c.squared_distance-d.result) c.squared_distance-d.result) = chord_split c.args.r.v c.args.from c.args.to c.requires c.args.left c.across-q.result
    (4 * c.square.result - c.squared_distance-d.result) c.squared_distance-d.result q-is n-is c.squared_distance-d.ensures in
    let product_is : (worth c.product.result ≡ sq c.across-q.result.first.v * (4 * c.square.result - c.squared_distance-d.result)) = c.product.ensures ∙ ap (◌* (4 * c.square.result - c.squared_distance-d.result)) c.square-2.ensures in
    let first-shares : (Shares c.across-q.result.first.v (4 * c.square.result - c.squared_distance-d.result) c.squared_distance-d.result
    c.divided-first.result) = let e = product_is in
    let k = c.divided-first.ensures in
    record { some = split-here.first.some; whole = rw e at k.whole; left = rw e at k.left } in
    record {
      start = c.requires.chord.start.first;
      end = c.requires.chord.end.first;
      most =
          share_most c.across-q.result.first.v (4 * c.square.result - c.squared_distance-d.result) c.squared_distance-d.result
          split-here.first c.divided-first.result first-shares;
    }

pub coordinate-requires-2 : goal.coordinate-requires-2
unfolding direction spare
coordinate-requires-2 c =
    let q-is : (let s = c.args in c.across-q.result ≡ across s.left (direction s.from s.to)) = c.across-q.ensures ∙ rw (c.minus-2.ensures.is, c.minus.ensures.is) in
    let n-is : (let s = c.args in
    4 * c.square.result - c.squared_distance-d.result ≡ spare s.r.v s.from s.to) = rw (c.square.ensures, c.squared_distance-d.ensures) in
    let split-here : (Split c.across-q.result (4 * c.square.result - c.squared_distance-d.result) c.squared_distance-d.result) = chord_split c.args.r.v c.args.from c.args.to c.requires c.args.left c.across-q.result
    (4 * c.square.result - c.squared_distance-d.result) c.squared_distance-d.result q-is n-is c.squared_distance-d.ensures in
    let product_is : (worth c.product.result ≡ sq c.across-q.result.first.v * (4 * c.square.result - c.squared_distance-d.result)) = c.product.ensures ∙ ap (◌* (4 * c.square.result - c.squared_distance-d.result)) c.square-2.ensures in
    let first-shares : (Shares c.across-q.result.first.v (4 * c.square.result - c.squared_distance-d.result) c.squared_distance-d.result
    c.divided-first.result) = let e = product_is in
    let k = c.divided-first.ensures in
    record { some = split-here.first.some; whole = rw e at k.whole; left = rw e at k.left } in
    let second-shares : (Shares c.across-q.result.second.v (4 * c.square.result - c.squared_distance-d.result) c.squared_distance-d.result
    c.other_share-second.result) = let q = c.across-q.result in
    other_shares q.first.v q.second.v (4 * c.square.result - c.squared_distance-d.result) c.squared_distance-d.result
    split-here.whole c.divided-first.result c.other_share-second.result first-shares c.other_share-second.ensures in
    record {
      start = c.requires.chord.start.second;
      end = c.requires.chord.end.second;
      most =
          share_most c.across-q.result.second.v (4 * c.square.result - c.squared_distance-d.result) c.squared_distance-d.result
          split-here.second c.other_share-second.result second-shares;
    }

pub returns : goal.returns
unfolding centre_by direction spare
returns c =
    let q-is : (let s = c.args in c.across-q.result ≡ across s.left (direction s.from s.to)) = c.across-q.ensures ∙ rw (c.minus-2.ensures.is, c.minus.ensures.is) in
    let n-is : (let s = c.args in
    4 * c.square.result - c.squared_distance-d.result ≡ spare s.r.v s.from s.to) = rw (c.square.ensures, c.squared_distance-d.ensures) in
    let split-here : (Split c.across-q.result (4 * c.square.result - c.squared_distance-d.result) c.squared_distance-d.result) = chord_split c.args.r.v c.args.from c.args.to c.requires c.args.left c.across-q.result
    (4 * c.square.result - c.squared_distance-d.result) c.squared_distance-d.result q-is n-is c.squared_distance-d.ensures in
    let product_is : (worth c.product.result ≡ sq c.across-q.result.first.v * (4 * c.square.result - c.squared_distance-d.result)) = c.product.ensures ∙ ap (◌* (4 * c.square.result - c.squared_distance-d.result)) c.square-2.ensures in
    let first-shares : (Shares c.across-q.result.first.v (4 * c.square.result - c.squared_distance-d.result) c.squared_distance-d.result
    c.divided-first.result) = let e = product_is in
    let k = c.divided-first.ensures in
    record { some = split-here.first.some; whole = rw e at k.whole; left = rw e at k.left } in
    let second-shares : (Shares c.across-q.result.second.v (4 * c.square.result - c.squared_distance-d.result) c.squared_distance-d.result
    c.other_share-second.result) = let q = c.across-q.result in
    other_shares q.first.v q.second.v (4 * c.square.result - c.squared_distance-d.result) c.squared_distance-d.result
    split-here.whole c.divided-first.result c.other_share-second.result first-shares c.other_share-second.ensures in
    let m = 4 * c.square.result - c.squared_distance-d.result in
    rw (
      c.coordinate.ensures m c.squared_distance-d.result first-shares,
      c.coordinate-2.ensures m c.squared_distance-d.result second-shares,
      q-is,
      n-is,
      c.squared_distance-d.ensures,
    )

pub square-requires-2 : goal.square-requires-2
unfolding direction spare
square-requires-2 c =
    let q-is : (let s = c.args in c.across-q.result ≡ across s.left (direction s.from s.to)) = c.across-q.ensures ∙ rw (c.minus-2.ensures.is, c.minus.ensures.is) in
    let n-is : (let s = c.args in
    4 * c.square.result - c.squared_distance-d.result ≡ spare s.r.v s.from s.to) = rw (c.square.ensures, c.squared_distance-d.ensures) in
    let split-here : (Split c.across-q.result (4 * c.square.result - c.squared_distance-d.result) c.squared_distance-d.result) = chord_split c.args.r.v c.args.from c.args.to c.requires c.args.left c.across-q.result
    (4 * c.square.result - c.squared_distance-d.result) c.squared_distance-d.result q-is n-is c.squared_distance-d.ensures in
    omega (arith, split-here.first.near)
