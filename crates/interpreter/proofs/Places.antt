-- The place that a missing end names. Assumes nothing.
use Rattle.terms.proofs.Common.{ℕ, ◌+◌, ◌-◌, ◌≤◌, ◌≡◌, ◌∙◌, ap, List, arith, length, length-drop}
use Rattle.lines.{specs.Blocks.blocks_of, proofs.Lines.blocks_end}
use Rattle.programs.specs.Places.{Begins}
use Rattle.runs.specs.Run.{finish_of}

-- "14: .. else one past the last block, at the data length": where no block begins any more
pub begins_end :
    {l : List ℕ} {n at : ℕ} → Begins l n at → length l ≤ at → finish_of l (blocks_of l) ≡ record { block = n; byte = at }
unfolding finish_of
begins_end {l} {n} {at} b h =
    let e : n ≡ length (blocks_of l) + 1 =
    omega (arith, b.last, b.counted, length-drop (n - 1) (blocks_of l), ap length (b.blocks ∙ blocks_end l n at h))
    in
    let f : at ≡ length l = omega (arith, b.inside) in
    rw (e, f)
