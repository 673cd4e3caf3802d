-- Demand 2: "The list read back, record by record from its first byte, gives the run's events and then the end of what was
-- written."
use Rattle.std.specs.Prelude.{◌+◌, ◌≤◌, ◌≡◌, ◌++◌}
use Rattle.terms.specs.Common.{ℕ, List, length, drop}
use Rattle.records.specs.{declared.Record.Record, declared.Listed.TheVariants.End, Layout.list_bytes, Reading.trail, Reading.after, Reading.read_all}
use Rattle.refusals.specs.{declared.Answer.Answer, Answers.count_of}

-- the records and the answer of a run for a list of so many bytes
pub record ReadsBack (rs : List Record) (answer : Answer) (room : ℕ) : Type 0 where
  -- reading from the first byte on gives the records and then the end, however long the reading goes on
  pub list : (n : ℕ) → read_all (length rs + n) (list_bytes rs) 0 ≡ trail rs End
  -- "the records written so far": as many as stand there
  pub count : count_of answer ≡ length rs
  pub fits : length (list_bytes rs) ≤ room
  -- The same of the list buffer's final bytes, as `Owes` of `interpreter` names them: the records' bytes, and then the bytes that
  -- stood there before. Reading gives the records, and then what the reader says after them.
  pub buffer :
      (was : List ℕ) (n : ℕ)
      → read_all (length rs + n) (list_bytes rs ++ drop (length (list_bytes rs)) was) 0
      ≡ after rs (read_all n (list_bytes rs ++ drop (length (list_bytes rs)) was) (length (list_bytes rs)))
