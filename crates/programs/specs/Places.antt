-- A program of the table begins where the data's own count of blocks and bytes says.
use Rattle.std.specs.Prelude.{◌+◌, ◌-◌, ◌≤◌, ◌≡◌, ◌∷◌}
use Rattle.terms.specs.Common.{ℕ, List, [], length, drop}
use Rattle.refusals.specs.declared.{Refusal.Refusal, Place.Place}
use Rattle.lines.specs.{Blocks.blocks_of, Serving.blocks_from}
use Rattle.programs.specs.{Openings.Table, Openings.table, Openings.refused_at, declared.Program.Program}

-- The block n begins at a place: the blocks found by its number are those that a walk finds from that byte on. A block takes
-- a byte at least, so that no block's number is more than one past its byte; and none is more than one past the last block's.
pub record Begins (bytes : List ℕ) (n at : ℕ) : Type 0 where
  pub inside : at ≤ length bytes
  pub counted : 1 ≤ n
  pub few : n ≤ at + 1
  pub last : n ≤ length (blocks_of bytes) + 1
  pub blocks : drop (n - 1) (blocks_of bytes) ≡ blocks_from bytes n at

-- the first block of a program begins where the table says
pub record Placed (bytes : List ℕ) (p : Program) : Type 0 where
  pub begins : Begins bytes p.block p.byte

-- each of a list of programs is so placed
pub data Places (bytes : List ℕ) : List Program → Type 0 where
  none : Places bytes []
  more : {p : Program} {ps : List Program} → Placed bytes p → Places bytes ps → Places bytes (p ∷ ps)

-- and all programs of a table
pub data TablePlaced (bytes : List ℕ) : Table → Type 0 where
  found : {main : Program} {subs : List Program} → Placed bytes main → Places bytes subs → TablePlaced bytes (table main subs)
  refused : {refusal : Refusal} {place : Place} → TablePlaced bytes (refused_at refusal place)
