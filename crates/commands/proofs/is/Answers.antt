-- `commands::is` meets its contract: all of the bytes are compared.
use Rattle.terms.proofs.Common.{ap, ◌∙◌, ℕ, List, take-length}
use Rattle.texts.specs.Texts.{same_bytes}
use Rattle.commands.proofs.is.Goals as goal

pub returns : goal.returns
returns c =
    let a = c.args in
    c.is_word.ensures ∙ ap (λ (l : List ℕ). same_bytes l a.name.now) (take-length a.given.now)
