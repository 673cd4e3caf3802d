-- The list that a run leaves for a file, by the rules of the run.
use Rattle.std.specs.Prelude.{◌≤◌, ◌≡◌, ◌&&◌, ◌++◌}
use Rattle.terms.specs.Common.{ℕ, Bool, Option, None, Some, List, length, take, drop}
use Rattle.refusals.specs.declared.Answer.{Answer, TheVariants.Done, TheVariants.Unfinished, TheVariants.Refused}
use Rattle.setup.specs.declared.Setup.{Setup}
use Rattle.records.specs.{declared.Record.Record, Layout.list_bytes}
use Rattle.commands.specs.{declared.options.Options.Options, Options.room_of}
use Rattle.runs.specs.{Run.answer_of, Run.standing_of, Run.records_of, declared.Budget.Budget, declared.Budget.TheVariants.Whole, declared.Budget.TheVariants.First, declared.Report.Report}

-- "N: only the first N blocks"
unfoldable pub blocks_as : Option ℕ → Budget
blocks_as None = Whole
blocks_as (Some n) = First n

abbrev pub budget_of : Options → Budget
budget_of o = blocks_as o.blocks

-- the records of a run with these options
abbrev pub made_by : Setup → List ℕ → Options → List Record
made_by s bytes o = records_of s bytes (room_of o) (budget_of o)

-- What such a run owes: its answer, and where it stands; its records from the first byte of the buffer on, within the room, and every byte after
-- them as it was; and where they end, so that the bytes before it are the records'.
pub record Makes (s : Setup) (bytes : List ℕ) (o : Options) (was is : List ℕ) (m : Report) : Type 0 where
  pub answer : m.answer ≡ answer_of s bytes (room_of o) (budget_of o)
  pub standing : m.standing ≡ standing_of s bytes (room_of o) (budget_of o)
  pub buffer : is ≡ list_bytes (made_by s bytes o) ++ drop (length (list_bytes (made_by s bytes o))) was
  pub end : m.end ≡ length (list_bytes (made_by s bytes o))
  pub fits : m.end ≤ room_of o
  pub file : take m.end is ≡ list_bytes (made_by s bytes o)

-- Whether the list's file gets them, where one is named: "where the answer is done, or not finished with --blocks"; "with
-- --partial" also the records before a refused block.
unfoldable pub is_written : Options → Answer → Bool
is_written o (Done n) = o.listed
is_written o (Unfinished n) = o.listed
is_written o (Refused r p n) = o.listed && o.partial
