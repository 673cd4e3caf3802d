-- `lengths::Len::minus` meets its contract: the difference has room, so the machine's difference is the difference.
use Rattle.terms.proofs.Common.{arith, rules, ◌+◌, ap, ℤ, ◌-ℤ◌}
use mir.{Syntax.w64, Val.SFits}
use Rattle.lengths.specs.{Units.len, View.over, View.under, Serving.Room}
use Rattle.lengths.proofs.{Laws.room_fits, Laws.diff_bal, Laws.asks, Laws.gives}
use Rattle.lengths.proofs.Len.minus.Goals as goal

room : (a b : ℤ) → Room (over a + under b) (under a + over b) → SFits w64 (a -ℤ b)
room a b h = room_fits (a -ℤ b) (omega (arith, diff_bal a b))

pub overflow_sub-result : goal.overflow_sub-result
overflow_sub-result c =
    let a = c.args.self.v in
    let b = c.args.b.v in
    asks ◌-ℤ◌ a b (search rules) (search rules) (room a b (search rules))

pub returns : goal.returns
returns c =
    let a = c.args.self.v in
    let b = c.args.b.v in
    let e = gives ◌-ℤ◌ a b (search rules) (search rules) (room a b (search rules)) in
    record { is = ap len e; bal = rw e (diff_bal a b) }
