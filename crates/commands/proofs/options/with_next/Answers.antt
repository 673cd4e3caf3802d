-- `commands::options::with_next` meets its contract.
use Rattle.terms.proofs.Common.{ap₂, ◌∙◌, ℕ, List}
use Rattle.commands.specs.Options.{with_option}
use Rattle.commands.proofs.{Choosing.next_none, Choosing.next_is}
use Rattle.commands.proofs.options.with_next.Goals as goal

pub returns-then-count-k : goal.returns-then-count-k
returns-then-count-k c =
    let a = c.args in
    next_none a.line.now a.count a.options c.if-count-k.true

pub returns : goal.returns
returns c =
    let a = c.args in
    c.with_option.ensures
    ∙ ap₂ (λ (x y : List ℕ). with_option x y a.options) c.word.ensures c.word-2.ensures
    ∙ next_is a.line.now a.count a.options c.if-count-k.false
