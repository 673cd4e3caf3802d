-- A block that is read as fine has words, and they are such as the judgement takes. Assumes nothing.
use Rattle.terms.proofs.Common.{ℕ, ◌≡◌, refl, Bool, None, List, arith}
use Rattle.words.specs.{Words.these, Words.bad_at, declared.Word.Word}
use Rattle.settings.specs.declared.Modes.{Modes}
use Rattle.letters.specs.Judging.{Stored}
use Rattle.reading.specs.{Items.words_at, Whole.status_of, Whole.AllStand, declared.Reading.Reading}
use Rattle.words.specs.Words as Words

fine_words : (main : Bool) (x : Words.Words) → None ≡ status_of main x → (ws : List Word) × (x ≡ these ws)
unfolding status_of
fine_words main (these ws) e = (ws, refl)
fine_words main (bad_at at) e = let never : ◌≡◌ {A = ℕ} 0 1 = cc in absurd (omega arith)

module _ (main : Bool) (m : Modes) (l : List ℕ) (from : ℕ) (held : List Word) (r : Reading) (h : AllStand main m l from held r) where
  pub read_kept : (ws : List Word) × (words_at l from ≡ these ws)
  read_kept = fine_words main (words_at l from) h.status

  pub read_stored : Stored held r.count
  read_stored = (h.kept read_kept.0 read_kept.1).stored
