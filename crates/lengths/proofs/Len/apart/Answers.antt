-- `lengths::Len::apart` meets its contract: the distance of two keys is that of the numbers.
use Rattle.terms.proofs.Common.{arith, ◌-ℤ◌}
use Rattle.lengths.proofs.{Laws.abs_sum, Laws.diff_bal}
use Rattle.lengths.proofs.Len.apart.Goals as goal

pub returns-then-x-y : goal.returns-then-x-y
returns-then-x-y c =
    let a = c.args.self.v in
    let b = c.args.b.v in
    omega (arith, abs_sum (a -ℤ b), diff_bal a b)

pub returns-else-x-y : goal.returns-else-x-y
returns-else-x-y c =
    let a = c.args.self.v in
    let b = c.args.b.v in
    omega (arith, abs_sum (a -ℤ b), diff_bal a b)
