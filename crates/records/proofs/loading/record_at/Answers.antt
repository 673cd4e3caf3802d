-- `records::loading::record_at` meets its contract: each arm reads the numbers that its kind has.
use Rattle.terms.proofs.Common.{ap, arith}
use Rattle.records.specs.{Reading.numbers_at, Layout.record_of}
use Rattle.records.specs.declared.Record.TheVariants.{RP, AR, AL, DW, SP}
use Rattle.records.proofs.{Found.line_found}
use Rattle.records.proofs.loading.record_at.Goals as goal

pub point_at-requires : goal.point_at-requires
point_at-requires c = omega (arith, rw c.in-RP.is at c.requires)

pub point_at-requires-in-LN : goal.point_at-requires-in-LN
point_at-requires-in-LN c = omega (arith, rw c.in-LN.is at c.requires)

pub number_at-requires : goal.number_at-requires
number_at-requires c = omega (arith, rw c.in-LN.is at c.requires)

pub arc_at-requires : goal.arc_at-requires
arc_at-requires c = omega (arith, rw c.in-AR.is at c.requires)

pub arc_at-requires-in-AL : goal.arc_at-requires-in-AL
arc_at-requires-in-AL c = omega (arith, rw c.in-AL.is at c.requires)

pub number_at-requires-in-DW : goal.number_at-requires-in-DW
number_at-requires-in-DW c = omega (arith, rw c.in-DW.is at c.requires)

pub number_at-requires-in-SP : goal.number_at-requires-in-SP
number_at-requires-in-SP c = omega (arith, rw c.in-SP.is at c.requires)

pub returns-in-RP : goal.returns-in-RP
unfolding record_of
returns-in-RP c = rw c.in-RP.is (ap RP c.point_at.ensures)

pub returns-in-LN : goal.returns-in-LN
unfolding record_of
returns-in-LN c =
    let x = c.args in
    rw c.in-LN.is (line_found x.list.now x.at c.point_at-in-LN.ensures c.number_at.ensures)

pub returns-in-AR : goal.returns-in-AR
unfolding record_of
returns-in-AR c = rw c.in-AR.is (ap AR c.arc_at.ensures)

pub returns-in-AL : goal.returns-in-AL
unfolding record_of
returns-in-AL c = rw c.in-AL.is (ap AL c.arc_at-in-AL.ensures)

pub returns-in-DW : goal.returns-in-DW
unfolding record_of numbers_at
returns-in-DW c = rw c.in-DW.is (ap DW c.number_at-in-DW.ensures)

pub returns-in-SP : goal.returns-in-SP
unfolding record_of numbers_at
returns-in-SP c = rw c.in-SP.is (ap SP c.number_at-in-SP.ensures)

pub returns-in-SO : goal.returns-in-SO
unfolding record_of
returns-in-SO c = rw c.in-SO.is

pub returns-in-PA : goal.returns-in-PA
unfolding record_of
returns-in-PA c = rw c.in-PA.is

pub returns-in-EN : goal.returns-in-EN
unfolding record_of
returns-in-EN c = rw c.in-EN.is
