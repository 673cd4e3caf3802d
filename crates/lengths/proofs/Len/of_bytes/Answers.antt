-- `lengths::Len::of_bytes` meets its contract: the sum of the bytes is a word of 32 bits, and the machine reads it as the definition
-- does.
use Rattle.terms.proofs.Common.{arith, pos, ◌-ℤ◌}
use mir.{Syntax.w64, Facts.to_z-of_z, ValLaws.to_z_pos}
use Rattle.lengths.specs.Units.{of_four}
use Rattle.lengths.proofs.{Laws.room_fits, Laws.diff_bal, Four.word, Four.of_low, Four.of_high, Four.four_read}
use Rattle.lengths.proofs.Len.of_bytes.Goals as goal

pub overflow_sub-result : goal.overflow_sub-result
overflow_sub-result c =
    let x = c.args in
    let n = word x.a x.b x.c x.d in
    rw (to_z_pos w64 n (omega arith)) (room_fits (pos n -ℤ pos 4294967296) (omega (arith, diff_bal (pos n) (pos 4294967296))))

pub returns-then-n-lt2147483648 : goal.returns-then-n-lt2147483648
unfolding of_four
returns-then-n-lt2147483648 c =
    let x = c.args in
    let n = word x.a x.b x.c x.d in
    rw (to_z_pos w64 n (omega arith), ← of_low n (omega arith))
    (four_read x.a x.b x.c x.d (omega arith) (omega arith) (omega arith) (omega arith))

pub returns-else-n-lt2147483648 : goal.returns-else-n-lt2147483648
unfolding of_four
returns-else-n-lt2147483648 c =
    let x = c.args in
    let n = word x.a x.b x.c x.d in
    rw (to_z-of_z (overflow_sub-result c), to_z_pos w64 n (omega arith), ← of_high n (omega arith) (omega arith))
    (four_read x.a x.b x.c x.d (omega arith) (omega arith) (omega arith) (omega arith))
