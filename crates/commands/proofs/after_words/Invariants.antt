use Rattle.terms.proofs.Common.{◌≤◌, ◌-◌, ◌≡◌, length, drop}
use Rattle.commands.specs.Words.{after_words}
use Rattle.commands.proofs.after_words.Given as goal

abbrev pub invariant-loop : goal.invariant-loop
invariant-loop l = (l.at ≤ length l.line) × (after_words (l.count - l.counter) (drop l.at l.line) ≡ after_words l.count l.line)
