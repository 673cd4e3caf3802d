-- What a number of two words is worth, and what dividing it answers.
use Rattle.std.specs.Prelude.{◌+◌, ◌*◌, ◌/◌, ◌%◌, ◌^◌, ◌≡◌}
use Rattle.terms.specs.Common.{ℕ}
use Rattle.wide.specs.declared.{Wide.Wide, Division.Division}

abbrev pub worth : Wide → ℕ
worth w = w.high * 2 ^ 64 + w.low

pub record Divides (w : Wide) (by : ℕ) (r : Division) : Type 0 where
  pub whole : r.quotient ≡ worth w / by
  pub left : r.rest ≡ worth w % by
