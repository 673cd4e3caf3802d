-- `cycles::hole_of` meets its contract: the level of R is near enough for Z to lead on from it.
use Rattle.terms.proofs.Common.{arith}
use Rattle.lengths.specs.View.{Within}
use Rattle.settings.{specs.CycleWords.kept_r, proofs.Near.aimed_near, proofs.Near.then_near}
use Rattle.cycles.specs.Cycles.{level_r, hole_of}
use Rattle.cycles.proofs.hole_of.Goals as goal

pub level_r-r-requires : goal.level_r-r-requires
level_r-r-requires c =
    let h = c.requires in
    record { origin = h.height; from = omega (arith, h.kept.initial); word = then_near c.args.s.kept.stands.r c.args.s.kept.r h.kept.r }

pub level_z-depth-requires : goal.level_z-depth-requires
unfolding level_r
level_z-depth-requires c =
    let h = c.requires in
    let k = c.args.s.kept in
    let near : Within 2_100_000_000 c.level_r-r.result.v =
    rw c.level_r-r.ensures
    (aimed_near {m = 1_100_000_000} c.args.origin.z k.initial (omega (arith, h.height)) h.kept.initial k.under.r (kept_r k) (then_near k.stands.r k.r h.kept.r))
    in
    record { origin = h.height; from = near; word = then_near k.stands.z k.z h.kept.z }

pub returns : goal.returns
unfolding hole_of
returns c = rw (c.then_some.ensures, c.then_some-2.ensures, c.level_z-depth.ensures, c.level_r-r.ensures)
