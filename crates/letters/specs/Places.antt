-- The values of a block's words by places, in a list of eleven.
use Rattle.std.specs.Prelude.{◌<◌, ◌≡◌}
use Rattle.terms.specs.Common.{ℕ, Option, None, Some, List, length, get_or, set}
use Rattle.lengths.specs.declared.Len.{Len}
use Rattle.words.specs.declared.Values.{Values}
use Rattle.letters.specs.Letters.{with_value}

-- the ten values by their places; the last place is none of theirs
unfoldable pub values_by : (ℕ → Option Len) → Values
values_by given =
    record {
      x = given 0;
      y = given 1;
      z = given 2;
      i = given 3;
      j = given 4;
      k = given 5;
      r = given 6;
      p = given 7;
      f = given 8;
      s = given 9;
    }

abbrev pub values_in : List (Option Len) → Values
values_in v = values_by (λ k. get_or v k None)

-- a letter's place: a value put there is the letter's, and no other changes
pub record IsPlace (letter k : ℕ) : Type 0 where
  pub inside : k < 11
  pub puts : (v : List (Option Len)) (z : Len) → length v ≡ 11 → values_in (set v k (Some z)) ≡ with_value (values_in v) letter (Some z)
