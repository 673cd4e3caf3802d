-- `records::storing::put_point` meets its contract: the parts are written one after the other.
use Rattle.terms.proofs.Common.{arith}
use Rattle.records.specs.Layout.{number_bytes}
use Rattle.records.proofs.{Written.wrote_then}
use Rattle.records.proofs.storing.put_point.Goals as goal

pub put_number-y-requires : goal.put_number-y-requires
unfolding number_bytes
put_number-y-requires c = record { at_in_bounds = omega arith; short = c.requires.all_short.1.0 }

pub put_number-requires : goal.put_number-requires
unfolding number_bytes
put_number-requires c =
    record { at_in_bounds = omega arith; short = c.requires.all_short.1.1.0 }

pub returns : goal.returns
unfolding number_bytes
returns c =
    wrote_then (wrote_then c.put_number-x.ensures c.put_number-y.ensures) c.put_number.ensures
