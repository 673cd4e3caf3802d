-- `svg::forms::put_form` meets its contract: at each byte, what is left to write gives the same.
use Rattle.svg.proofs.{Blanks.filled_end, Blanks.filled_plain, Blanks.filled_blank}
use Rattle.svg.proofs.forms.put_form.Goals as goal

pub loop-c-init : goal.loop-c-init
loop-c-init c = λ is k h. h

pub loop-c-preserved-then-c-ne95 : goal.loop-c-preserved-then-c-ne95
loop-c-preserved-then-c-ne95 c =
    let h = c.loop-c in
    λ is k rest. h.invariant is k (filled_plain c.args.form.now h.one h.two h.c-index c.loop-c-test.true c.if-c-ne95.true c.put_byte-next.ensures rest)

pub loop-c-preserved : goal.loop-c-preserved
loop-c-preserved c =
    let h = c.loop-c in
    λ is k rest. h.invariant is k (filled_blank c.args.form.now h.one h.two h.c-index c.loop-c-test.true c.if-c-ne95.false c.put_number-next.ensures (rw (c.across-two.ensures, c.across-turned.ensures) at rest))

pub returns : goal.returns
returns c =
    let h = c.loop-c in
    h.invariant h.out h.next (filled_end c.args.form.now h.one h.two h.c-index h.out h.next c.loop-c-test.false)
