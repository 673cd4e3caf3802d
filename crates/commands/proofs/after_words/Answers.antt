-- `commands::after_words` meets its contract. What is left gives the same.
use Rattle.terms.proofs.Common.{ℕ, ◌+◌, ◌-◌, ◌≡◌, sym, ap, ◌∙◌, arith, drop}
use Rattle.commands.specs.Words.{after_word, after_words}
use Rattle.commands.proofs.{Parting.one_less, Parting.none_left}
use Rattle.commands.proofs.after_words.Goals as goal

pub loop-preserved : goal.loop-preserved
loop-preserved c =
    let l = c.args.line.now in
    let left = c.args.count - c.loop.counter in
    let less : c.args.count - (c.loop.counter + 1) ≡ left - 1 = omega arith in
    let rest = drop c.loop.at l in
    (c.after_word-at.ensures.0, ap (after_words (c.args.count - (c.loop.counter + 1))) c.after_word-at.ensures.1 ∙ ap (λ (k : ℕ). after_words k (after_word rest)) less ∙ sym (one_less left rest (omega arith)) ∙ c.loop.invariant.1)

pub returns : goal.returns
returns c =
    let l = c.args.line.now in
    let none : c.args.count - c.loop.counter ≡ 0 = omega arith in
    (c.loop.invariant.0, sym (none_left (drop c.loop.at l)) ∙ ap (λ (k : ℕ). after_words k (drop c.loop.at l)) (sym none) ∙ c.loop.invariant.1)
