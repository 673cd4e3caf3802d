-- What is read of a block's words leads where the rules lead. Assumes nothing.
use Rattle.std.specs.Prelude.{Result, Ok, Err}
use Rattle.terms.proofs.Common.{ℕ, ◌≡◌, refl, sym, ◌∙◌, ap, Bool, None, Some, List, arith, eqb, drop}
use Rattle.refusals.specs.declared.Blame.{Blame}
use Rattle.lines.specs.Blocks.{text_from}
use Rattle.words.specs.{declared.Word.Word, Words.Words, Words.these, Words.bad_at}
use Rattle.setup.specs.{declared.Bed.Bed, Fair.Fair}
use Rattle.settings.specs.declared.State.{State}
use Rattle.reading.specs.{declared.Reading.Reading, Items.words_at, Whole.status_of, Whole.Kept}
use Rattle.blocks.{specs.Machine.machine_of, specs.Reach.Reachable, specs.Calling.freely, specs.Exec.in_main, specs.Exec.said_by, specs.Exec.exec, proofs.Calling.free_main}
use Rattle.execution.specs.{Steps.Says, Steps.judged_from, declared.BlockRead.BlockRead, BlockReading.JudgedAs, BlockReading.BlockReadAs}
use Rattle.execution.proofs.Verdicts.{reading_stops, stands}

-- words all of which may stand
pub record Reads (words : Words) : Type 0 where
  pub ws : List Word
  pub are : words ≡ these ws

pub all_stand : (main : Bool) (words : Words) → None ≡ status_of main words → Reads words
unfolding status_of
all_stand main (these ws) e = record { ws = ws; are = refl }
all_stand main (bad_at at) e = let no : ◌≡◌ {A = ℕ} 0 1 = cc in absurd (omega arith)

module _ (bed : Bed) (left : ℕ) (s : State) (bytes : List ℕ) (from : ℕ) where
  -- refused as it is read
  pub reading_refused :
      (blame : Blame) → Some blame ≡ status_of (eqb left 4) (words_at bytes from)
      → BlockReadAs bed left s bytes from (Err blame)
  unfolding exec
  reading_refused blame e =
      λ room start.
      reading_stops (machine_of bed) (freely left) room s start (words_at bytes from) blame
      (e ∙ ap (λ (main : Bool). status_of main (words_at bytes from)) (sym (free_main left)))

  module _ (ws : List Word) (are : words_at bytes from ≡ these ws) (fine : None ≡ status_of (eqb left 4) (words_at bytes from)) where
    reads : (room start : ℕ) → exec (machine_of bed) (freely left) room s start from (text_from (drop from bytes)) ≡ judged_from 1 (machine_of bed) (freely left) room s start ws (said_by (machine_of bed) s.modes ws)
    unfolding exec
    reads room start =
        let good : None ≡ status_of (in_main (freely left)) (words_at bytes from) =
        fine ∙ ap (λ (main : Bool). status_of main (words_at bytes from)) (sym (free_main left))
        in
        let st = stands (machine_of bed) (freely left) room s start (words_at bytes from) good in
        st.goes ∙ same_words st.ws (sym st.are ∙ are)
      where
        same_words :
            (us : List Word) → these us ≡ these ws
            → judged_from 1 (machine_of bed) (freely left) room s start us (said_by (machine_of bed) s.modes us)
            ≡ judged_from 1 (machine_of bed) (freely left) room s start ws (said_by (machine_of bed) s.modes ws)
        same_words us e = let same : us ≡ ws = cc in rw same

    module _ {held : List Word} {read : Reading} (kept : Kept s.modes bytes from ws held read) where
      says : Says s.modes ws held read
      says = record { seen = kept.seen; words = kept.words }

      -- judged as it was read
      pub block_read_as : Fair bed → Reachable bed s → (r : Result BlockRead Blame) → JudgedAs bed held read r → BlockReadAs bed left s bytes from r
      block_read_as fair state (Err blame) j = λ room start. reads room start ∙ j s ws says left room start
      block_read_as fair state (Ok found) j =
          record {
            steady = j.0.steady s ws says fair state;
            inside = rw j.1 kept.inside;
            block = rw j.1 kept.block;
            ws = ws;
            goes = λ room start. reads room start ∙ j.0.goes s ws says left room start;
          }
