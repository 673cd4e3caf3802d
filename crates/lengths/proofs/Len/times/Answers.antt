-- `lengths::Len::times` meets its contract: the product of two numbers of 31 bits has room.
use Rattle.terms.proofs.Common.{arith, rules, ap, ℤ, ◌*ℤ◌}
use mir.{Syntax.w64, Val.SFits}
use Rattle.lengths.specs.{Units.len, View.Within}
use Rattle.lengths.proofs.{Laws.room_fits, Laws.mul_near, Laws.asks, Laws.gives}
use Rattle.lengths.proofs.Len.times.Goals as goal

room : (a b : ℤ) → (Within 2147483647 a) × (Within 2147483647 b) → SFits w64 (a *ℤ b)
room a b h = room_fits (a *ℤ b) (omega (arith, mul_near h.0 h.1))

pub overflow_mul-result : goal.overflow_mul-result
overflow_mul-result c =
    let a = c.args.self.v in
    let b = c.args.b.v in
    asks ◌*ℤ◌ a b (search rules) (search rules) (room a b (search rules))

pub returns : goal.returns
returns c =
    let a = c.args.self.v in
    let b = c.args.b.v in
    let e = gives ◌*ℤ◌ a b (search rules) (search rules) (room a b (search rules)) in
    record { is = ap len e; near = rw e (mul_near c.requires.0 c.requires.1) }
