-- `arcs::arc_holds` meets its contract: an end that is too far on one axis is too far, and any other is near enough for the
-- squares to fit.
use Rattle.terms.proofs.Common.{◌≤◌, ◌≡◌, sym, ap, ◌∙◌, arith}
use Rattle.arcs.specs.{Root.root, Arcs.radius², Arcs.arc_holds}
use Rattle.arcs.proofs.{Reach.root_near, Reach.first_refused, Reach.second_refused}
use Rattle.arcs.proofs.arc_holds.Goals as goal

pub overflow_add-r : goal.overflow_add-r
overflow_add-r c =
    let r-is : c.root_of-r.result ≡ root (radius² c.args.from c.args.a) = c.root_of-r.ensures ∙ ap root c.squared_radius.ensures in
    let near : c.root_of-r.result ≤ 1_414_213_562 = rw r-is (root_near c.args.from c.args.a c.requires) in
    omega (arith, near)

pub returns-then-r-apart : goal.returns-then-r-apart
returns-then-r-apart c =
    let r-is : c.root_of-r.result ≡ root (radius² c.args.from c.args.a) = c.root_of-r.ensures ∙ ap root c.squared_radius.ensures in
    let s = c.args in
    let end = c.in_plane-at.ensures in
    let centre = c.centre_of-centre.ensures in
    sym (first_refused s.from s.a (rw (r-is, c.apart.ensures.is, end, centre) at c.if-r-apart.true))

pub overflow_add-r-2 : goal.overflow_add-r-2
overflow_add-r-2 c =
    let r-is : c.root_of-r.result ≡ root (radius² c.args.from c.args.a) = c.root_of-r.ensures ∙ ap root c.squared_radius.ensures in
    let near : c.root_of-r.result ≤ 1_414_213_562 = rw r-is (root_near c.args.from c.args.a c.requires) in
    omega (arith, near)

pub returns-then-r-apart-2 : goal.returns-then-r-apart-2
returns-then-r-apart-2 c =
    let r-is : c.root_of-r.result ≡ root (radius² c.args.from c.args.a) = c.root_of-r.ensures ∙ ap root c.squared_radius.ensures in
    let s = c.args in
    let end = c.in_plane-at.ensures in
    let centre = c.centre_of-centre.ensures in
    sym (second_refused s.from s.a (rw (r-is, c.apart-2.ensures.is, end, centre) at c.if-r-apart-2.true))

pub squared_distance-requires : goal.squared_distance-requires
squared_distance-requires c =
    let r-is : c.root_of-r.result ≡ root (radius² c.args.from c.args.a) = c.root_of-r.ensures ∙ ap root c.squared_radius.ensures in
    let near : c.root_of-r.result ≤ 1_414_213_562 = rw r-is (root_near c.args.from c.args.a c.requires) in
    omega (arith, near)

pub is_round_enough-requires : goal.is_round_enough-requires
is_round_enough-requires c =
    let r-is : c.root_of-r.result ≡ root (radius² c.args.from c.args.a) = c.root_of-r.ensures ∙ ap root c.squared_radius.ensures in
    let near : c.root_of-r.result ≤ 1_414_213_562 = rw r-is (root_near c.args.from c.args.a c.requires) in
    omega (arith, near)

pub returns : goal.returns
unfolding arc_holds
returns c =
    let r-is : c.root_of-r.result ≡ root (radius² c.args.from c.args.a) = c.root_of-r.ensures ∙ ap root c.squared_radius.ensures in
    let end = c.in_plane-at.ensures in
    let centre = c.centre_of-centre.ensures in
    rw (c.is_round_enough.ensures, c.squared_distance.ensures, r-is, end, centre)
