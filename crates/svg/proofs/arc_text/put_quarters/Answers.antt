-- `svg::arc_text::put_quarters` meets its contract: at each quarter, what is left to write gives the same.
use Rattle.terms.proofs.Common.{◌-◌, sym, ◌∙◌, arith}
use Rattle.svg.proofs.{ArcParts.quarters_soon, ArcParts.quarters_done, ArcParts.quarters_on}
use Rattle.svg.proofs.arc_text.put_quarters.Goals as goal

pub loop-init : goal.loop-init
loop-init c = (c.requires.start, λ is k h. h)

pub is_soon-requires : goal.is_soon-requires
is_soon-requires c = (c.loop.invariant.0, c.requires.end)

pub returns-then-is_soon : goal.returns-then-is_soon
returns-then-is_soon c =
    let h = c.loop in
    h.invariant.1 h.out h.next (quarters_soon c.args.s h.d h.out h.next (3 - h.counter) (sym c.is_soon.ensures ∙ c.if-is_soon.true))

pub quarter_on-d-requires : goal.quarter_on-d-requires
quarter_on-d-requires c = c.loop.invariant.0

pub seen_on-requires : goal.seen_on-requires
seen_on-requires c = (c.requires, c.quarter_on-d.ensures.1)

pub loop-preserved : goal.loop-preserved
loop-preserved c =
    let s = c.args.s in
    let h = c.loop in
    let on = c.quarter_on-d.ensures in
    let soon = sym c.is_soon.ensures ∙ c.if-is_soon.false in
    let piece = rw (c.seen_on.ensures, on.0) at c.put_piece-next.ensures in (
      on.1,
      λ is k rest. h.invariant.1 is k (quarters_on s h.d 3 h.counter c.loop-test.true soon piece (rw on.0 at rest)),
    )

pub returns : goal.returns
returns c =
    let h = c.loop in
    h.invariant.1 h.out h.next (quarters_done c.args.s h.d h.out h.next (3 - h.counter) (omega arith))
