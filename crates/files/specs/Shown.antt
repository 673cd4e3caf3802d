-- Text of somebody else's, shown on one line.
use Rattle.std.specs.Prelude.{if◌then◌else◌}
use Rattle.terms.specs.Common.{ℕ, ltb, eqb}
use Rattle.terms.specs.Terms.{byte}

-- a tab is shown as a blank; a byte below the blank, or above the last one that is shown, as a question mark
abbrev pub shown_as : ℕ → ℕ → ℕ
shown_as last b =
    if eqb b (byte "\t") then byte " " else (if ltb b (byte " ") then byte "?" else (if ltb last b then byte "?" else b))
