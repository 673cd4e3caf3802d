-- `setups::is_named` meets its contract: the first byte that is no gap.
use Rattle.terms.proofs.Common.{arith}
use Rattle.setups.proofs.{Filling.no_first, Filling.first_letter}
use Rattle.setups.proofs.is_named.Goals as goal

pub returns-then-s-first : goal.returns-then-s-first
returns-then-s-first c =
    let a = c.args in
    no_first a.s.now c.next_word-first.result c.next_word-first.ensures c.if-s-first.true

pub returns : goal.returns
returns c =
    let a = c.args in
    first_letter a.s.now c.next_word-first.result c.next_word-first.ensures (omega arith)
