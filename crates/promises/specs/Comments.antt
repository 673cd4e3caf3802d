-- Document 01, "Data set and blocks": "Bytes inside a comment, replaced by others that are neither `)`, LF nor CR, change no
-- record and no answer."
use Rattle.std.specs.Prelude.{◌<◌, ◌≡◌, ◌⊎◌}
use Rattle.terms.specs.Common.{ℕ, Bool, true, List, length, get_or}
use Rattle.terms.specs.Terms.{byte}
use Rattle.lines.specs.Comments.{inside_at}
use Rattle.setup.specs.declared.Setup.{Setup}
use Rattle.runs.specs.{Run.answer_of, Run.records_of, Run.standing_of, declared.Budget.Budget}

-- A byte inside a comment, and another that may take its place. The test says whether a comment is open where the bytes begin.
pub record MayBecome (open' : Bool) (x : List ℕ) (i c : ℕ) : Type 0 where
  pub inside : inside_at open' x i ≡ true
  pub paren : c ≡ byte ")" → ⊥
  pub lf : c ≡ byte "\n" → ⊥
  pub cr : c ≡ byte "\r" → ⊥

-- as many bytes, each of them the same or so replaced
pub record Replaced (open' : Bool) (x y : List ℕ) : Type 0 where
  pub size : length x ≡ length y
  pub each : (i : ℕ) → i < length x → (get_or x i 0 ≡ get_or y i 0) ⊎ MayBecome open' x i (get_or y i 0)

-- "change no record and no answer", nor where the run stands
pub record SameRun (s : Setup) (room : ℕ) (budget : Budget) (x y : List ℕ) : Type 0 where
  pub answer : answer_of s x room budget ≡ answer_of s y room budget
  pub records : records_of s x room budget ≡ records_of s y room budget
  pub standing : standing_of s x room budget ≡ standing_of s y room budget
