-- `setup::faults::origins_fault` meets its contract: the origins from the place on decide.
use Rattle.terms.proofs.Common.{pos, refl, sym, ◌∙◌, arith}
use Rattle.setup.proofs.{Broken.origins_end, Broken.origin_stops, Broken.origin_passes}
use Rattle.setup.proofs.faults.origins_fault.Goals as goal

pub returns-in-Some : goal.returns-in-Some
returns-in-Some c =
    sym (c.loop-i.invariant ∙ origin_stops c.args.origins c.loop-i.i _ c.place_fault.result c.point_of.result (omega arith) c.point_of.ensures c.place_fault.ensures c.in-Some.fault c.in-Some.is)

pub loop-i-preserved : goal.loop-i-preserved
loop-i-preserved c =
    c.loop-i.invariant ∙ origin_passes c.args.origins c.loop-i.i _ c.place_fault.result c.point_of.result (omega arith) c.point_of.ensures c.place_fault.ensures c.in_default.is

pub returns : goal.returns
returns c =
    sym (c.loop-i.invariant ∙ origins_end c.args.origins c.loop-i.i (record { x = pos 0; y = pos 0; z = pos 0 }) (omega arith))
