-- What only serves proofs: the blocks from a place of the data on.
use Rattle.terms.specs.Common.{ℕ, List, drop}
use Rattle.lines.specs.Blocks.{Block, blocks_after}

-- the blocks of the data from a place where the block n begins
abbrev pub blocks_from : List ℕ → ℕ → ℕ → List Block
blocks_from bytes n at = blocks_after 0 n at (drop at bytes)
