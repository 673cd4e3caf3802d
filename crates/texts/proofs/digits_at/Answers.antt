-- `texts::digits_at` meets its contract: the digits passed are counted, and the rest gives the same.
use Rattle.terms.proofs.Common.{arith}
use Rattle.texts.proofs.Worths.{no_digits, many_digits, none_counted, small, digit_counted, low_byte, high_byte, all_counted}
use Rattle.texts.proofs.digits_at.Goals as goal

pub returns-then-from-end : goal.returns-then-from-end
returns-then-from-end c =
    no_digits c.args.s.now c.args.from c.args.end c.requires.1 c.if-from-end.true

pub returns-then-end-from-gt19 : goal.returns-then-end-from-gt19
returns-then-end-from-gt19 c =
    many_digits c.args.s.now c.args.from c.args.end c.requires.1 c.if-end-from-gt19.true

pub loop-i-init : goal.loop-i-init
loop-i-init c =
    none_counted c.args.s.now c.args.from c.args.end c.requires.1 c.requires.0 c.if-from-end.false (omega arith)

pub returns-then-b-lt48 : goal.returns-then-b-lt48
returns-then-b-lt48 c =
    low_byte c.args.s.now c.args.from c.args.end c.requires.1 c.loop-i.value c.loop-i.i c.loop-i.invariant (omega arith) c.if-b-lt48.true

pub returns-then-b-gt57 : goal.returns-then-b-gt57
returns-then-b-gt57 c =
    high_byte c.args.s.now c.args.from c.args.end c.requires.1 c.loop-i.value c.loop-i.i c.loop-i.invariant (omega arith) c.if-b-gt57.true

pub overflow_mul-value : goal.overflow_mul-value
overflow_mul-value c =
    omega (arith, small c.args.s.now c.args.from c.args.end c.requires.1 c.loop-i.value c.loop-i.i c.loop-i.invariant (omega arith) (omega arith))

pub overflow_add-value : goal.overflow_add-value
overflow_add-value c =
    omega (arith, small c.args.s.now c.args.from c.args.end c.requires.1 c.loop-i.value c.loop-i.i c.loop-i.invariant (omega arith) (omega arith))

pub loop-i-preserved : goal.loop-i-preserved
loop-i-preserved c =
    rw c.from.ensures (digit_counted c.args.s.now c.args.from c.args.end c.requires.1 c.loop-i.value c.loop-i.i c.loop-i.invariant (omega arith) (omega arith) (omega arith))

pub returns : goal.returns
returns c =
    all_counted c.args.s.now c.args.from c.args.end c.requires.1 c.loop-i.value c.loop-i.i c.loop-i.invariant (omega arith)
