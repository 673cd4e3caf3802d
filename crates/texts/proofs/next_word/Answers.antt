-- `texts::next_word` meets its contract. What is left gives the same: the place and the gap there.
use Rattle.terms.proofs.Common.{refl, sym, ◌∙◌, false, dec_le, length, arith}
use Rattle.texts.specs.Texts.{next}
use Rattle.texts.proofs.{Places.gap_end, Places.gap_more, Places.gap_over}
use Rattle.texts.proofs.next_word.Goals as goal

pub loop-i-init : goal.loop-i-init
unfolding next
loop-i-init c = refl

pub returns-in_default : goal.returns-in_default
returns-in_default c =
    omega (arith, c.loop-i.invariant, gap_over c.args.s.now c.loop-i.inside c.loop-i.i (omega arith) (sym c.space_of.ensures ∙ c.in_default.is))

pub loop-i-preserved : goal.loop-i-preserved
loop-i-preserved c =
    omega (arith, c.loop-i.invariant, gap_more c.args.s.now c.loop-i.inside c.loop-i.i c.in-Gap.after (omega arith) (sym c.space_of.ensures ∙ c.in-Gap.is))

pub returns : goal.returns
unfolding next
returns c =
    let s = c.args.s.now in
    elim (dec_le (length s) c.args.at) [
      | yes past ↦ omega (arith, gap_end s false c.args.at past)
      | no before ↦ omega (arith, c.loop-i.invariant, c.loop-i.auto.i-end (omega arith), gap_end s c.loop-i.inside c.loop-i.i (omega arith))
    ]
