-- A block that was read as a whole.
use Rattle.std.specs.Prelude.{◌+◌, ◌≤◌, ◌≡◌, Result, Ok, Err}
use Rattle.terms.specs.Common.{ℕ, Bool, Option, None, Some, List, [], length, take, drop}
use Rattle.lines.specs.Blocks.{length_from}
use Rattle.refusals.specs.declared.{Blame.Blame, Refusal.TheVariants.CannotExecute, Refusal.TheVariants.Unreadable}
use Rattle.words.specs.{Words.these, Words.bad_at, declared.Word.Word}
use Rattle.settings.specs.declared.Modes.{Modes}
use Rattle.letters.specs.{Letters.first_that_may_not, Judging.valued, Judging.Stored}
use Rattle.reading.specs.{Items.words_at, Seen.Sums, declared.Reading.Reading}
use Rattle.words.specs.Words as Words

-- "15 leftmost; 4 leftmost": what is to blame, if anything
unfoldable pub standing : Option Word → Option Blame
standing None = None
standing (Some w) = Some (record { refusal = CannotExecute; byte = w.at })

unfoldable pub status_of : Bool → Words.Words → Option Blame
status_of main (these ws) = standing (first_that_may_not main [] ws)
status_of main (bad_at at) = Some (record { refusal = Unreadable; byte = at })

-- what is known of a block all of whose words may stand: what is kept of them, the words with a value in their order, the
-- first of those that the lent arrays hold, and the place of the next block
pub record Kept (m : Modes) (l : List ℕ) (from : ℕ) (ws held : List Word) (r : Reading) : Type 0 where
  pub seen : Sums m ws r.seen
  pub stored : Stored held r.count
  pub words : take r.count held ≡ valued ws
  pub inside : r.end ≤ length l
  pub block : r.end + length_from (drop r.end l) ≡ from + length_from (drop from l)

pub record AllStand (main : Bool) (m : Modes) (l : List ℕ) (from : ℕ) (held : List Word) (r : Reading) : Type 0 where
  pub status : None ≡ status_of main (words_at l from)
  pub kept : (ws : List Word) → words_at l from ≡ these ws → Kept m l from ws held r

abbrev pub IsRead : Bool → Modes → List ℕ → ℕ → List Word → Result Reading Blame → Type 0
IsRead main m l from held (Err blame) = Some blame ≡ status_of main (words_at l from)
IsRead main m l from held (Ok r) = AllStand main m l from held r
