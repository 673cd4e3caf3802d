use Rattle.terms.proofs.Common.{◌+◌, ◌≡◌, sym, ◌∙◌, arith, drop, false}
use Rattle.lines.specs.{Blocks.no_text}
use Rattle.lines.proofs.Laws.{gaps_end, text_inside, gaps_at_blank, gaps_at_other, gaps_at_open, gaps_at_comment, comment_way, blank_is, blank_not}
use Rattle.lines.proofs.gaps.only_gaps.Goals as goal

pub bounds-s-i : goal.bounds-s-i
bounds-s-i c = text_inside c.args.s.now c.loop-i.i (sym c.text_ends.ensures ∙ c.loop-i-test.true)

pub loop-i-preserved-in-32 : goal.loop-i-preserved-in-32
loop-i-preserved-in-32 c =
    let going : no_text (drop c.loop-i.i c.args.s.now) ≡ false = sym c.text_ends.ensures ∙ c.loop-i-test.true in (
      omega (arith, text_inside c.args.s.now c.loop-i.i going),
      c.loop-i.invariant.1 ∙ gaps_at_blank c.args.s.now c.loop-i.i going (blank_is _ c.in-32.is),
    )

pub returns-in_default-comment_end : goal.returns-in_default-comment_end
returns-in_default-comment_end c =
    let going : no_text (drop c.loop-i.i c.args.s.now) ≡ false = sym c.text_ends.ensures ∙ c.loop-i-test.true in
    sym
    (c.loop-i.invariant.1
    ∙ gaps_at_open c.args.s.now c.loop-i.i going c.in-40.is
    (sym c.comment_end.ensures ∙ c.in_default-comment_end.is))

pub loop-i-smaller : goal.loop-i-smaller
loop-i-smaller c =
    let inside = text_inside c.args.s.now c.loop-i.i (sym c.text_ends.ensures ∙ c.loop-i-test.true) in
    let w = comment_way c.args.s.now (c.loop-i.i + 1) c.in-Some.next (omega arith) (sym c.comment_end.ensures ∙ c.in-Some.is) in
    omega (arith, w.is, w.within)

pub loop-i-preserved : goal.loop-i-preserved
loop-i-preserved c =
    let going : no_text (drop c.loop-i.i c.args.s.now) ≡ false = sym c.text_ends.ensures ∙ c.loop-i-test.true in
    let inside = text_inside c.args.s.now c.loop-i.i going in
    let passed = sym c.comment_end.ensures ∙ c.in-Some.is in (
      (comment_way c.args.s.now (c.loop-i.i + 1) c.in-Some.next (omega arith) passed).within,
      c.loop-i.invariant.1 ∙ gaps_at_comment c.args.s.now c.loop-i.i c.in-Some.next going c.in-40.is passed,
    )

pub returns-in_default : goal.returns-in_default
returns-in_default c =
    let other = c.in_default.in_default-own.rest in
    let going : no_text (drop c.loop-i.i c.args.s.now) ≡ false = sym c.text_ends.ensures ∙ c.loop-i-test.true in
    sym (c.loop-i.invariant.1 ∙ gaps_at_other c.args.s.now c.loop-i.i going (blank_not _ other.0.1) other.1)

pub returns : goal.returns
returns c = sym (c.loop-i.invariant.1 ∙ gaps_end c.args.s.now c.loop-i.i (sym c.text_ends.ensures ∙ c.loop-i-test.false))
