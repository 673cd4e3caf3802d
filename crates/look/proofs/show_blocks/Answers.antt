-- `look::show_blocks` meets its contract: each block ends in the data.
use Rattle.terms.proofs.Common.{ℕ, ◌+◌, ◌≤◌, ◌≡◌, List, arith, length, drop, length-drop}
use Rattle.lines.{specs.Blocks.length_from, proofs.Lines.length_bound}
use Rattle.look.proofs.show_blocks.Goals as goal

next_inside : (s : List ℕ) (at : ℕ) {next : ℕ} → at ≤ length s → next ≡ at + length_from (drop at s) → next ≤ length s
next_inside s at h e = omega (arith, length_bound (drop at s), length-drop at s)

pub loop-number-init : goal.loop-number-init
loop-number-init g c = next_inside c.args.s.now 0 (omega arith) c.next_block-at.ensures

pub loop-number-preserved : goal.loop-number-preserved
loop-number-preserved g c =
    next_inside c.args.s.now c.loop-number.at c.loop-number.invariant c.next_block-at-in-loop-number.ensures
