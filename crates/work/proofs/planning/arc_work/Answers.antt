-- `work::planning::arc_work` meets its contract: by the words that stand, the radius, and the sense.
use Rattle.terms.proofs.Common.{ap, not}
use Rattle.work.proofs.{Centring.fitting, Centring.round, Plans.arc_rests, Plans.arc_impossible, Plans.arc_clockwise, Plans.arc_counter}
use Rattle.work.proofs.planning.arc_work.Goals as goal

pub returns-then-not-end_stands-centre_given : goal.returns-then-not-end_stands-centre_given
returns-then-not-end_stands-centre_given c =
    let a = c.args in
    arc_rests a.s a.origin a.v a.clockwise a.left c.end_stands.ensures c.centre_given.ensures (ap not c.if-not-end_stands-centre_given.true) c.no_work.ensures

pub target_point-end-requires : goal.target_point-end-requires
target_point-end-requires c = c.requires.aims

pub radius_fits-requires : goal.radius_fits-requires
radius_fits-requires c =
    let h = c.requires in
    record { radius = h.radius; at = h.aims.from; near = c.target_point-end.ensures.near }

pub returns-then-not-radius_fits : goal.returns-then-not-radius_fits
returns-then-not-radius_fits c =
    let a = c.args in
    arc_impossible a.s a.origin a.v a.clockwise a.left c.end_stands.ensures c.centre_given.ensures (ap not c.if-not-end_stands-centre_given.false) c.target_point-end.ensures.is
    c.radius_fits.ensures (ap not c.if-not-radius_fits.true) c.no_work-then-not-radius_fits.ensures

pub arc_to-a-requires : goal.arc_to-a-requires
arc_to-a-requires c = fitting c.requires c.target_point-end.ensures.near c.radius_fits.ensures (ap not c.if-not-radius_fits.false)

pub arc_holds-sound-requires : goal.arc_holds-sound-requires
arc_holds-sound-requires c =
    round c.args.left (fitting c.requires c.target_point-end.ensures.near c.radius_fits.ensures (ap not c.if-not-radius_fits.false)) c.arc_to-a.ensures

pub returns-then-clockwise : goal.returns-then-clockwise
returns-then-clockwise c =
    let a = c.args in
    arc_clockwise a.s a.origin a.v a.clockwise a.left c.end_stands.ensures c.centre_given.ensures (ap not c.if-not-end_stands-centre_given.false) c.target_point-end.ensures.is
    c.radius_fits.ensures (ap not c.if-not-radius_fits.false) c.arc_to-a.ensures c.arc_holds-sound.ensures c.if-clockwise.true c.one_work.ensures

pub returns : goal.returns
returns c =
    let a = c.args in
    arc_counter a.s a.origin a.v a.clockwise a.left c.end_stands.ensures c.centre_given.ensures (ap not c.if-not-end_stands-centre_given.false) c.target_point-end.ensures.is
    c.radius_fits.ensures (ap not c.if-not-radius_fits.false) c.arc_to-a.ensures c.arc_holds-sound.ensures c.if-clockwise.false c.one_work-2.ensures
