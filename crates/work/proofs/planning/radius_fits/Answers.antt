-- `work::planning::radius_fits` meets its contract.
use Rattle.std.specs.Prelude.{is_some}
use Rattle.terms.proofs.Common.{ap}
use Rattle.work.proofs.{Centring.radius_missing, Centring.chord, Centring.radius_tested}
use Rattle.work.proofs.planning.radius_fits.Goals as goal

pub returns-in_default : goal.returns-in_default
returns-in_default c =
    let a = c.args in
    radius_missing a.s a.v a.end (ap is_some c.in_default.is)

pub radius_holds-requires : goal.radius_holds-requires
radius_holds-requires c =
    chord c.args.s c.args.v c.args.end c.in_plane.ensures c.in_plane-2.ensures c.in-Some.is c.requires

pub returns : goal.returns
returns c =
    let a = c.args in
    radius_tested a.s a.v a.end c.in_plane.ensures c.in_plane-2.ensures c.in-Some.is
    c.radius_holds.ensures
