-- What the words of a command ask for.
use Rattle.std.specs.Prelude.{if◌then◌else◌}
use Rattle.terms.specs.Common.{ℕ, List}
use Rattle.terms.specs.Terms.{bytes}
use Rattle.texts.specs.Texts.{same_bytes}
use Rattle.shop.specs.declared.Asked.{Asked, TheVariants.Run, TheVariants.Show, TheVariants.Plot, TheVariants.Check, TheVariants.Other}

-- the command that a first word names
unfoldable pub asked_by : List ℕ → Asked
asked_by given =
    if same_bytes given (bytes "run") then Run
    else (if same_bytes given (bytes "show") then Show
    else (if same_bytes given (bytes "plot") then Plot
    else (if same_bytes given (bytes "check") then Check
    else Other)))
