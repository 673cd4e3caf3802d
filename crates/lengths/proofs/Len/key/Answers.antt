-- `lengths::Len::key` meets its contract. Below 0 the least number is taken away first, so that both casts are of numbers that are not
-- below 0.
use Rattle.terms.proofs.Common.{◌≤◌, ◌≡◌, true, arith, rules, ℤ, pos, negsuc, ◌-ℤ◌, lt_z}
use mir.{Syntax.w64, Val.SFits, Facts.to_z-of_z}
use Rattle.lengths.specs.View.{over, under}
use Rattle.lengths.proofs.{Laws.view, Laws.room_fits, Laws.fits_room, Laws.diff_bal, Laws.cast_asks, Laws.cast_gives}
use Rattle.lengths.proofs.Len.key.Goals as goal

abbrev least : ℤ
least = negsuc 9223372036854775807

module _ (a : ℤ) (f : SFits w64 a) (t : lt_z a (pos 0) ≡ true) where
  up_fits : SFits w64 (a -ℤ least)
  up_fits = room_fits (a -ℤ least) (omega (arith, view, fits_room a f, diff_bal a least))

  up : under (a -ℤ least) ≤ over (a -ℤ least)
  up = omega (arith, view, fits_room a f, diff_bal a least)

pub overflow_sub-result : goal.overflow_sub-result
overflow_sub-result c =
    let a = c.args.self.v in
    let f : SFits w64 a = search rules in
    rw (to_z-of_z f) (up_fits a f (rw (to_z-of_z f) at c.if-v-lt0.true))

pub overflow_cast-result : goal.overflow_cast-result
overflow_cast-result c =
    let a = c.args.self.v in
    let f : SFits w64 a = search rules in
    let t = rw (to_z-of_z f) at c.if-v-lt0.true in
    rw (to_z-of_z (overflow_sub-result c), to_z-of_z f) (cast_asks (a -ℤ least) (up a f t) (up_fits a f t))

pub overflow_cast-result-else-v-lt0 : goal.overflow_cast-result-else-v-lt0
overflow_cast-result-else-v-lt0 c =
    let a = c.args.self.v in
    let f : SFits w64 a = search rules in
    let t = rw (to_z-of_z f) at c.if-v-lt0.false in
    rw (to_z-of_z f) (cast_asks a (omega (arith, view)) f)

pub overflow_add-result : goal.overflow_add-result
overflow_add-result c =
    let a = c.args.self.v in
    let f : SFits w64 a = search rules in
    let t = rw (to_z-of_z f) at c.if-v-lt0.false in
    rw (to_z-of_z f) (omega (arith, fits_room a f, cast_gives a (omega (arith, view))))

pub returns-then-v-lt0 : goal.returns-then-v-lt0
returns-then-v-lt0 c =
    let a = c.args.self.v in
    let f : SFits w64 a = search rules in
    let t = rw (to_z-of_z f) at c.if-v-lt0.true in
    let z = a -ℤ least in
    rw (to_z-of_z (overflow_sub-result c), to_z-of_z f) (omega (arith, cast_gives z (up a f t), diff_bal a least))

pub returns-else-v-lt0 : goal.returns-else-v-lt0
returns-else-v-lt0 c =
    let a = c.args.self.v in
    let f : SFits w64 a = search rules in
    let t = rw (to_z-of_z f) at c.if-v-lt0.false in
    rw (to_z-of_z f) (omega (arith, cast_gives a (omega (arith, view))))
