-- `arcs::is_round_enough` meets its contract.
use Rattle.terms.proofs.Common.{le-leb, lt-leb}
use Rattle.arcs.specs.Arcs.{round_enough}
use Rattle.arcs.proofs.is_round_enough.Goals as goal

pub returns-then-r-lt2000 : goal.returns-then-r-lt2000
unfolding round_enough
returns-then-r-lt2000 c = rw (lt-leb 2_000 c.args.r c.if-r-lt2000.true)

pub returns : goal.returns
unfolding round_enough
returns c =
    let t = le-leb 2_000 c.args.r c.if-r-lt2000.false in
    rw (t, c.squared.ensures, c.squared-2.ensures)
