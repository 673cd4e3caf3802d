-- `words::numerals::read_figures` meets its contract. What is left gives the same: the figures passed, by the variables, and the bytes
-- from the index on make the number.
use Rattle.terms.proofs.Common.{[], ◌≡◌, add-zero, arith, drop}
use Rattle.words.specs.Numbers.{is_figure, run}
use Rattle.words.proofs.{Numbers.below_ten, Numbers.sign_most}
use Rattle.words.proofs.Figures.{none_passed, point_passed, second_point, digit_passed, tenth_digit, none_left, none_here, low_byte, high_byte, point_most, no_number, some_number}
use Rattle.words.proofs.numerals.read_figures.Goals as goal
use Rattle.words.proofs.numerals.read_figures.Goals.{in-46+else-point, in-48-to-57+else-count-eq9+then-point-2, in-48-to-57+else-count-eq9+else-point-2, else-loop-b-test, then-loop-b-test+in_default, then-loop-b-test+in_default-2}

pub loop-b-init : goal.loop-b-init
loop-b-init c = none_passed c.args.bytes.now c.args.sign

pub returns-then-point : goal.returns-then-point
returns-then-point c = second_point c.loop-b.invariant (omega arith) c.in-46.is c.if-point.true

pub returns-then-count-eq9 : goal.returns-then-count-eq9
returns-then-count-eq9 c = tenth_digit c.loop-b.invariant (omega arith) (omega arith) (omega arith) (omega arith)

pub overflow_mul-digits : goal.overflow_mul-digits
overflow_mul-digits c =
    let p = c.loop-b.invariant in
    omega (arith, below_ten _ p.nine p.small)

pub overflow_add-digits : goal.overflow_add-digits
overflow_add-digits c =
    let p = c.loop-b.invariant in
    omega (arith, below_ten _ p.nine p.small)

pub loop-b-preserved : goal.loop-b-preserved
loop-b-preserved c =
    let p = c.loop-b.invariant in
    elim c.match-b.branch [
      | in-46+else-point w ↦ rw (w.digits-is, w.decimals-is, w.count-is, w.point-is) (point_passed p (omega arith) w.in-46.is w.if-point.false)
      | in-48-to-57+else-count-eq9+then-point-2 w ↦
          rw (w.digits-is, w.count-is, w.point-is)
          (digit_passed p (omega arith) (omega arith) (omega arith) _ (omega arith) (rw (w.decimals-is, w.if-point-2.true)))
      | in-48-to-57+else-count-eq9+else-point-2 w ↦
          rw (w.digits-is, w.count-is, w.point-is)
          (digit_passed p (omega arith) (omega arith) (omega arith) _ (omega arith) (rw (w.decimals-is, w.if-point-2.false, add-zero)))
    ]

pub returns-then-count-eq0 : goal.returns-then-count-eq0
returns-then-count-eq0 c =
    let none_more : run is_figure (drop c.loop-b.b-index c.args.bytes.now) ≡ [] =
    let p = c.loop-b.invariant in
    elim c.loop-b-test.branch [
      | else-loop-b-test w ↦ none_left p (omega arith)
      | then-loop-b-test+in_default w ↦ none_here p (omega arith) (low_byte _ w.in_default.in_default-own.rest.1 (omega arith))
      | then-loop-b-test+in_default-2 w ↦ none_here p (omega arith) (high_byte _ w.in_default.in_default-own.rest.1 (omega arith))
    ] in
    no_number c.loop-b.invariant none_more c.if-count-eq0.true

pub overflow_add-result : goal.overflow_add-result
overflow_add-result c = omega (arith, sign_most c.args.sign, c.sign_length.ensures, c.loop-b.invariant.nine)

pub overflow_add-result-2 : goal.overflow_add-result-2
overflow_add-result-2 c = omega (arith, sign_most c.args.sign, c.sign_length.ensures, c.loop-b.invariant.nine, point_most c.loop-b.point)

pub returns : goal.returns
returns c =
    let none_more : run is_figure (drop c.loop-b.b-index c.args.bytes.now) ≡ [] =
    let p = c.loop-b.invariant in
    elim c.loop-b-test.branch [
      | else-loop-b-test w ↦ none_left p (omega arith)
      | then-loop-b-test+in_default w ↦ none_here p (omega arith) (low_byte _ w.in_default.in_default-own.rest.1 (omega arith))
      | then-loop-b-test+in_default-2 w ↦ none_here p (omega arith) (high_byte _ w.in_default.in_default-own.rest.1 (omega arith))
    ] in
    some_number c.loop-b.invariant none_more _ (rw c.sign_length.ensures) c.if-count-eq0.false
