-- What the entry points owe, by the rules of the run.
use Rattle.std.specs.Prelude.{◌+◌, ◌≡◌, ◌++◌}
use Rattle.terms.specs.Common.{ℕ, List, length, take, drop}
use Rattle.setup.specs.declared.Setup.{Setup}
use Rattle.records.specs.{declared.Record.Record, declared.Listed.TheVariants.End, Layout.list_bytes, Reading.trail, Reading.after, Reading.read_all}
use Rattle.runs.specs.{Run.answer_of, Run.standing_of, Run.records_of, declared.Budget.Budget, declared.Report.Report}
use Rattle.refusals.specs.{declared.Answer.Answer, Answers.count_of}

-- What a run owes: its answer, where it stands, the place where its records end, and the list buffer's final bytes in full. The whole
-- buffer is the room.
pub record Owes (s : Setup) (l : List ℕ) (budget : Budget) (was is : List ℕ) (r : Report) : Type 0 where
  pub answer : r.answer ≡ answer_of s l (length was) budget
  pub standing : r.standing ≡ standing_of s l (length was) budget
  pub end : r.end ≡ length (list_bytes (records_of s l (length was) budget))
  pub bytes :
      is
      ≡ list_bytes (records_of s l (length was) budget)
      ++ drop (length (list_bytes (records_of s l (length was) budget))) was

-- Demand 2 of the list buffer's final bytes: "The list read back, record by record from its first byte, gives the run's events
-- and then the end of what was written." As many are read as the answer counts, and more.
pub record ReadsAs (rs : List Record) (is : List ℕ) (r : Answer) : Type 0 where
  -- the whole buffer: the records, and then what the reader says where they end
  pub buffer : (n : ℕ) → read_all (count_of r + n) is 0 ≡ after rs (read_all n is (length (list_bytes rs)))
  -- what was written of it: the records, and then its end
  pub written : (n : ℕ) → read_all (count_of r + n) (take (length (list_bytes rs)) is) 0 ≡ trail rs End
