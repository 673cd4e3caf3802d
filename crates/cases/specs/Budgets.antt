-- How many blocks a case runs.
use Rattle.terms.specs.Common.{ℕ, Option, None, Some}
use Rattle.runs.specs.declared.Budget.{Budget, TheVariants.Whole, TheVariants.First}

-- so many, or all where the word is no count
unfoldable pub budget_by : Option ℕ → Budget
budget_by (Some n) = First n
budget_by None = Whole
