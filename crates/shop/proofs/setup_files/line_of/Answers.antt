-- `shop::setup_files::line_of` meets its contract. What is left gives the same.
use Rattle.terms.proofs.Common.{arith, dec_le}
use Rattle.shop.proofs.{Counting.all_ending, Counting.none_past, Counting.none_more, Counting.one_ends, Counting.goes_on}
use Rattle.shop.proofs.setup_files.line_of.Goals as goal
use Rattle.shop.proofs.setup_files.line_of.Goals.{then-text-i-eq10, else-text-i-eq10}

pub loop-i-init : goal.loop-i-init
loop-i-init c = let a = c.args in omega (arith, all_ending a.text.now a.at)

pub loop-i-preserved : goal.loop-i-preserved
loop-i-preserved c =
    let a = c.args in
    elim c.if-text-i-eq10.branch [
      | then-text-i-eq10 w ↦ omega (arith, one_ends a.text.now a.at c.loop-i.i (omega arith) (omega arith) w.if-text-i-eq10.true)
      | else-text-i-eq10 w ↦ omega (arith, goes_on a.text.now a.at c.loop-i.i (omega arith) (omega arith) w.if-text-i-eq10.false)
    ]

pub returns : goal.returns
returns c =
    let a = c.args in
    elim (dec_le a.at c.loop-i.i) [
      | yes past ↦ omega (arith, none_past a.text.now a.at c.loop-i.i past)
      | no before ↦ omega (arith, none_more a.text.now a.at c.loop-i.i (omega arith))
    ]
