-- `svg::arc_text::put_extremes` meets its contract: at each extreme, what is left to write gives the same.
use Rattle.terms.proofs.Common.{◌-◌, sym, ◌∙◌, arith}
use Rattle.svg.proofs.{ArcParts.extreme_not, ArcParts.extreme_is, ArcParts.extremes_done, ArcParts.extremes_on}
use Rattle.svg.proofs.arc_text.put_extremes.Goals as goal

pub loop-preserved-then-not-is_passed : goal.loop-preserved-then-not-is_passed
loop-preserved-then-not-is_passed c =
    let s = c.args.s in
    let h = c.loop in
    let on = c.quarter_on-e.ensures in
    let none = extreme_not s h.e h.out h.next (sym c.is_passed.ensures ∙ c.if-not-is_passed.true) in (
      on.1,
      λ is k rest. h.invariant.1 is k (extremes_on s h.e 4 h.counter c.loop-test.true none (rw on.0 at rest)),
    )

pub loop-preserved : goal.loop-preserved
loop-preserved c =
    let s = c.args.s in
    let h = c.loop in
    let on = c.quarter_on-e.ensures in
    let passed = sym c.is_passed.ensures ∙ c.if-not-is_passed.false in
    let one = extreme_is s h.e passed (rw c.seen_on-to.ensures at c.put_form-next.ensures) in (
      on.1,
      λ is k rest. h.invariant.1 is k (extremes_on s h.e 4 h.counter c.loop-test.true one (rw on.0 at rest)),
    )

pub returns : goal.returns
returns c =
    let h = c.loop in
    rw c.zero.ensures.is at
    (h.invariant.1 h.out h.next (extremes_done c.args.s h.e h.out h.next (4 - h.counter) (omega arith)))
