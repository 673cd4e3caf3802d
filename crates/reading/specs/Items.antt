-- What begins at a place of the data, and the words from there to the end of its block.
use Rattle.std.specs.Prelude.{◌+◌, Result, Ok, Err}
use Rattle.terms.specs.Common.{ℕ, List, drop}
use Rattle.lines.specs.Blocks.{text_from}
use Rattle.refusals.specs.declared.{Blame.Blame, Refusal.Refusal, Refusal.TheVariants.CannotExecute, Refusal.TheVariants.Unreadable}
use Rattle.words.specs.Words.{gap, word, unreadable, these, bad_at, words_of}
use Rattle.reading.specs.declared.{Item.Item, Item.TheVariants.Gap, Item.TheVariants.Says}
use Rattle.words.specs.Words as Words

-- an item that begins at a place, with the place after it, or the refusal of what cannot be read there
unfoldable pub placed : ℕ → Words.Item → Result Item Refusal
placed i (gap k) = Ok (Gap (i + 1 + k))
placed i (word w k) = Ok (Says w (i + 1 + k))
placed i unreadable = Err Unreadable

-- the words from a place to the end of its block
abbrev pub words_at : List ℕ → ℕ → Words.Words
words_at l i = words_of i (text_from (drop i l))

-- "15 leftmost; 4 leftmost": what is to blame after a word that may not stand
unfoldable pub status_after : ℕ → Words.Words → Blame
status_after wrong (these ws) = record { refusal = CannotExecute; byte = wrong }
status_after wrong (bad_at at) = record { refusal = Unreadable; byte = at }
