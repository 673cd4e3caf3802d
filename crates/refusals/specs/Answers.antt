-- What a run answers, in document 01's words: "the records written so far", whatever became of it, and a refusal by its number.
use Rattle.terms.specs.Common.{ℕ}
use Rattle.refusals.specs.declared.Answer.{Answer, TheVariants.Done, TheVariants.Unfinished, TheVariants.Refused}
use Rattle.refusals.specs.{declared.Place.Place, Numbers.number_of}

-- the count of records that an answer names
abbrev pub count_of : Answer → ℕ
count_of (Done n) = n
count_of (Unfinished n) = n
count_of (Refused refusal place n) = n

-- "Each returns number, block, byte and the records written so far."
pub data NumberedAnswer : Type 0 where
  done : (count : ℕ) → NumberedAnswer
  not_finished : (count : ℕ) → NumberedAnswer
  refused_with : (number : ℕ) (place : Place) (count : ℕ) → NumberedAnswer

-- what each case of an answer says; every promise that names a refusal speaks of this
abbrev pub report_of : Answer → NumberedAnswer
report_of (Done n) = done n
report_of (Unfinished n) = not_finished n
report_of (Refused refusal place n) = refused_with (number_of refusal) place n
