-- What the code reads of a block's words, by what is left of the order of refusals.
use Rattle.std.specs.Prelude.{◌+◌, ◌≤◌, ◌≡◌, Result, Ok, Err}
use Rattle.terms.specs.Common.{ℕ, List, length, drop}
use Rattle.refusals.specs.declared.Blame.{Blame}
use Rattle.lines.specs.Blocks.{text_from, length_from}
use Rattle.words.specs.declared.Word.{Word}
use Rattle.setup.specs.{declared.Bed.Bed, Fair.Fair}
use Rattle.settings.specs.declared.State.{State}
use Rattle.reading.specs.declared.Reading.{Reading}
use Rattle.blocks.specs.{declared.Said.Said, Machine.machine_of, Reach.Reachable, Reach.Steady, Calling.freely, Exec.refused, Exec.said_by, Exec.exec}
use Rattle.execution.specs.{Steps.judged_from, declared.BlockRead.BlockRead}
use Rattle.execution.specs.Steps as Steps

-- what the judgement of a block's words comes to: 2 or 1 by value, or what the block says
pub record Judges (bed : Bed) (held : List Word) (read : Reading) (said : Said) : Type 0 where
  pub steady : (s : State) (ws : List Word) → Steps.Says s.modes ws held read → Fair bed → Reachable bed s → Steady bed s said
  pub goes :
      (s : State) (ws : List Word) → Steps.Says s.modes ws held read → (left room start : ℕ)
      → judged_from 1 (machine_of bed) (freely left) room s start ws (said_by (machine_of bed) s.modes ws)
      ≡ judged_from 3 (machine_of bed) (freely left) room s start ws said

abbrev pub JudgedAs : Bed → List Word → Reading → Result BlockRead Blame → Type 0
JudgedAs bed held read (Err blame) =
    (s : State) (ws : List Word) → Steps.Says s.modes ws held read → (left room start : ℕ)
    → judged_from 1 (machine_of bed) (freely left) room s start ws (said_by (machine_of bed) s.modes ws)
    ≡ refused blame
JudgedAs bed held read (Ok found) = Judges bed held read found.said × (found.end ≡ read.end)

-- what a block at a place of the data says: it is refused before 3 is asked, or all its words can be obeyed
pub record BlockSays (bed : Bed) (left : ℕ) (s : State) (bytes : List ℕ) (from : ℕ) (said : Said) (end : ℕ) : Type 0 where
  pub steady : Steady bed s said
  pub inside : end ≤ length bytes
  pub block : end + length_from (drop end bytes) ≡ from + length_from (drop from bytes)
  pub ws : List Word
  pub goes :
      (room start : ℕ)
      → exec (machine_of bed) (freely left) room s start from (text_from (drop from bytes))
      ≡ judged_from 3 (machine_of bed) (freely left) room s start ws said

abbrev pub BlockReadAs : Bed → ℕ → State → List ℕ → ℕ → Result BlockRead Blame → Type 0
BlockReadAs bed left s bytes from (Err blame) =
    (room start : ℕ)
    → exec (machine_of bed) (freely left) room s start from (text_from (drop from bytes)) ≡ refused blame
BlockReadAs bed left s bytes from (Ok found) = BlockSays bed left s bytes from found.said found.end
