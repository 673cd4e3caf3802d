-- `programs::read_digits` meets its contract.
use Rattle.terms.proofs.Common.{◌+◌, ◌-◌, ◌≡◌, sym, ◌∙◌, ap, arith, length, drop, length-drop, length-take-le}
use Rattle.words.specs.Numbers.{is_digit}
use Rattle.programs.proofs.Figures.{there, one_passed, nine_passed, ended_other, ended_end, all_passed}
use Rattle.programs.proofs.read_digits.Goals as goal

pub returns-then-not-is_ascii_digit : goal.returns-then-not-is_ascii_digit
returns-then-not-is_ascii_digit c =
    let p = c.loop-count.invariant in
    let t = there c.args.s.now c.args.at c.loop-count.count c.loop-count-test.true in
    all_passed p (ended_other p t.0 (sym (ap is_digit t.1) ∙ sym c.if-not-is_ascii_digit.ensures.value))

pub returns-then-count-eq8 : goal.returns-then-count-eq8
returns-then-count-eq8 c =
    let t = there c.args.s.now c.args.at c.loop-count.count c.loop-count-test.true in
    let d = c.if-not-is_ascii_digit.ensures.cases in
    nine_passed c.loop-count.invariant t.0 (omega (arith, d.0, t.1)) (omega (arith, d.1, t.1)) c.if-count-eq8.true

pub loop-count-preserved : goal.loop-count-preserved
loop-count-preserved c =
    let t = there c.args.s.now c.args.at c.loop-count.count c.loop-count-test.true in
    let d = c.if-not-is_ascii_digit.ensures.cases in
    let next : c.args.at + c.loop-count.count + 1 ≡ c.args.at + (c.loop-count.count + 1) = omega arith in
    rw (t.1, ← next)
    (one_passed c.loop-count.invariant t.0 (omega (arith, d.0, t.1)) (omega (arith, d.1, t.1)) c.if-count-eq8.false)

pub returns : goal.returns
returns c =
    let s = c.args.s.now in
    let p = c.loop-count.invariant in
    let n = length-take-le (length s - c.args.at) (drop c.args.at s) (omega (arith, length-drop c.args.at s)) in
    let all : c.loop-count.count ≡ length s - c.args.at = omega (arith, n, p.inside, c.loop-count-test.false) in
    rw (← all) (all_passed p (ended_end p (omega (arith, all))))
