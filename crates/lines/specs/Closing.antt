-- What only serves the proofs of this crate: where a comment ends, as the code answers it.
use Rattle.std.specs.Prelude.{◌+◌}
use Rattle.terms.specs.Common.{ℕ, Option, None, Some, List}
use Rattle.words.specs.Words.{closing}

-- where a comment ends whose bytes begin at a place, with the block's text from there
unfoldable pub comment_by : ℕ → Option ℕ → Option ℕ
comment_by at None = None
comment_by at (Some k) = Some (at + k)

abbrev pub comment_at : ℕ → List ℕ → Option ℕ
comment_at at text = comment_by at (closing text)
