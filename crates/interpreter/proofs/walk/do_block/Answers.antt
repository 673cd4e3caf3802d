-- `interpreter::walk::do_block` meets its contract.
use Rattle.terms.proofs.Common.{sym, ◌∙◌, arith}
use Rattle.terms.proofs.Laws.{both_left, both_right}
use Rattle.interpreter.proofs.{Acting.does_plain, Acting.does_slashed, Acting.does_skipped}
use Rattle.interpreter.proofs.walk.do_block.Goals as goal
use Rattle.interpreter.proofs.walk.do_block.Goals.{then-slashed, else-slashed}

pub returns-then-slashed-skips : goal.returns-then-slashed-skips
returns-then-slashed-skips c n =
    let a = c.args in
    let both = c.if-slashed-skips.true in
    let slash = c.begins_with-slashed.result in
    does_skipped a.s.now a.footing a.skips n a.at a.next a.state a.list.now
    (sym c.begins_with-slashed.ensures ∙ both_left slash a.skips both) (both_right slash a.skips both) c.next_block.ensures

pub exec-requires : goal.exec-requires
exec-requires c =
    record {
      from_in_bounds = elim c.if-slashed.branch [ then-slashed w ↦ omega arith | else-slashed w ↦ omega arith ];
      at_in_bounds = c.requires.next_in_bounds;
      fair = c.requires.fair;
      reachable = c.requires.reachable;
    }

pub returns : goal.returns
returns c n =
    let a = c.args in
    let slash = sym c.begins_with-slashed.ensures in
    elim c.if-slashed.branch [
      | then-slashed w ↦
          does_slashed a.s.now a.footing a.skips n a.at a.next a.state a.list.now (slash ∙ w.if-slashed.true)
          (rw w.if-slashed.true at c.if-slashed-skips.false) (rw w.from-is at c.exec.ensures)
      | else-slashed w ↦
          does_plain a.s.now a.footing a.skips n a.at a.next a.state a.list.now (slash ∙ w.if-slashed.false) (rw w.from-is at c.exec.ensures)
    ]
