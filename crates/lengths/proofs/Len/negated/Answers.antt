-- `lengths::Len::negated` meets its contract: the machine takes the number from 0.
use Rattle.terms.proofs.Common.{arith, rules, refl, pos, neg_ℤ, ◌-ℤ◌, +ℤ_idl}
use mir.{Syntax.w64, Val.SFits, Facts.to_z-of_z}
use Rattle.lengths.proofs.{Laws.room_fits, Laws.fits_room, Laws.diff_bal, Laws.neg_over, Laws.neg_under}
use Rattle.lengths.proofs.Len.negated.Goals as goal

pub overflow_sub-result : goal.overflow_sub-result
overflow_sub-result c =
    let a = c.args.self.v in
    let f : SFits w64 a = search rules in
    rw (to_z-of_z f) (room_fits (pos 0 -ℤ a) (omega (arith, diff_bal (pos 0) a, fits_room a f)))

pub returns : goal.returns
returns c =
    let a = c.args.self.v in
    let f : SFits w64 a = search rules in
    rw (to_z-of_z (overflow_sub-result c), to_z-of_z f, +ℤ_idl (neg_ℤ a)) (record { is = refl; ups = neg_over a; downs = neg_under a })
