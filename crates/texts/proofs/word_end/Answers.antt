-- `texts::word_end` meets its contract. What is left gives the same.
use Rattle.terms.proofs.Common.{◌≡◌, refl, sym, ◌∙◌, true, false, dec_le, length, arith, get_or}
use Rattle.texts.specs.Texts.{in_word}
use Rattle.texts.proofs.{Places.word_end, Places.word_more, Places.word_over}
use Rattle.texts.proofs.word_end.Goals as goal

pub loop-i-init : goal.loop-i-init
loop-i-init c = refl

pub returns-then-not-in_word : goal.returns-then-not-in_word
returns-then-not-in_word c =
    let s = c.args.s.now in
    let e : in_word (get_or s c.loop-i.i 0) ≡ false = sym c.in_word.ensures ∙ c.if-not-in_word.true in
    omega (arith, c.loop-i.invariant, word_over s c.loop-i.i (omega arith) e)

pub loop-i-preserved : goal.loop-i-preserved
loop-i-preserved c =
    let s = c.args.s.now in
    let e : in_word (get_or s c.loop-i.i 0) ≡ true = sym c.in_word.ensures ∙ c.if-not-in_word.false in
    omega (arith, c.loop-i.invariant, word_more s c.loop-i.i (omega arith) e)

pub returns : goal.returns
returns c =
    let s = c.args.s.now in
    elim (dec_le (length s) c.args.at) [
      | yes past ↦ omega (arith, word_end s c.args.at past)
      | no before ↦ omega (arith, c.loop-i.invariant, c.loop-i.auto.i-end (omega arith), word_end s c.loop-i.i (omega arith))
    ]
