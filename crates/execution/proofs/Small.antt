-- The small tables of the order: which codes and motions a test is about. Assumes nothing.
use Rattle.std.specs.Prelude.{is_some}
use Rattle.terms.proofs.Common.{◌≡◌, refl, Bool, true, false, not, ◌&&◌, ◌||◌, None, Some, [], ◌∷◌}
use denote.Enum.{Bare.sameb, Declared.tag_of}
use types.Run.{OneOf, miss}
use Rattle.lengths.specs.declared.Len.{Len}
use Rattle.codes.specs.declared.{Misc.Misc, Motion.Motion, Distance.Distance, Plane.Plane, Plane.TheVariants.G17, Plane.TheVariants.G18, Plane.TheVariants.G19}
use Rattle.codes.{specs.Codes.misc_number, specs.Codes.is_m, specs.contracts.Misc.the_type as misc-type, specs.contracts.Motion.the_type as motion-type, specs.contracts.Plane.the_type as plane-type}
use Rattle.codes.specs.declared.Misc.TheVariants.{M00, M02, M03, M05, M30, M98, M99, Other}
use Rattle.codes.specs.declared.Motion.TheVariants.{Off, G00, G01, G02, G03, Drilling}
use Rattle.words.specs.declared.Values.{Values}
use Rattle.settings.specs.declared.State.{State}
use Rattle.letters.{specs.declared.BlockCode.BlockCode, specs.contracts.BlockCode.the_type as code-type}
use Rattle.letters.specs.declared.BlockCode.TheVariants.{Calling, Returning, Dwelling, Moving}
use Rattle.work.specs.Work.{brief_records}
use Rattle.work.specs.declared.Brief.TheVariants.{Speed}
use Rattle.blocks.specs.{declared.Said.Said, declared.Control.TheVariants.On, Exec.control_of, Exec.kept_by, Exec.working, Exec.spindle_records, Exec.last_records, Exec.lacks_centre, Exec.drills, Exec.is_g17}

-- ---- motions and codes that have no arm of their own

pub no_centre : (m : Motion) (v : Values) → (m ≡ G02 → ⊥) → (m ≡ G03 → ⊥) → false ≡ lacks_centre m v
unfolding lacks_centre
no_centre Off v a b = refl
no_centre G00 v a b = refl
no_centre G01 v a b = refl
no_centre G02 v a b = absurd (a refl)
no_centre G03 v a b = absurd (b refl)
no_centre (Drilling cycle) v a b = refl

pub no_cycle :
    (m : Motion) (named : Bool) (v : Values) → OneOf (0 ∷ 1 ∷ 2 ∷ 3 ∷ 4 ∷ []) (tag_of motion-type m) → drills (Moving m) named v ≡ false
unfolding drills
no_cycle Off named v h = refl
no_cycle G00 named v h = refl
no_cycle G01 named v h = refl
no_cycle G02 named v h = refl
no_cycle G03 named v h = refl
no_cycle (Drilling cycle) named v h = absurd (miss (0 ∷ 1 ∷ 2 ∷ 3 ∷ 4 ∷ []) 5 tt h)

pub not_moving : (code : BlockCode) (named : Bool) (v : Values) → OneOf (0 ∷ 1 ∷ 2 ∷ []) (tag_of code-type code) → drills code named v ≡ false
unfolding drills
not_moving Calling named v h = refl
not_moving Returning named v h = refl
not_moving Dwelling named v h = refl
not_moving (Moving m) named v h = absurd (miss (0 ∷ 1 ∷ 2 ∷ []) 3 tt h)

pub kept_still :
    (code : BlockCode) (s : State) (d : Distance) (v : Values) → OneOf (0 ∷ 1 ∷ 2 ∷ []) (tag_of code-type code) → s.kept ≡ kept_by code s d v
unfolding kept_by
kept_still Calling s d v h = refl
kept_still Returning s d v h = refl
kept_still Dwelling s d v h = refl
kept_still (Moving m) s d v h = absurd (miss (0 ∷ 1 ∷ 2 ∷ []) 3 tt h)

pub same_g17 : (p : Plane) → sameb plane-type p G17 ≡ is_g17 p
unfolding is_g17
same_g17 G17 = refl
same_g17 G18 = refl
same_g17 G19 = refl

-- a word is missing where it does not stand
pub missing_is : (t : Bool) {u : Bool} → u ≡ not t → t ≡ not u
missing_is true e = rw e
missing_is false e = rw e

-- ---- the records before and after the motion, and where an M code leads

pub is_three : (m : Misc) → sameb misc-type m M03 ≡ is_m 3 m
unfolding is_m misc_number
is_three M00 = refl
is_three M02 = refl
is_three M03 = refl
is_three M05 = refl
is_three M30 = refl
is_three M98 = refl
is_three M99 = refl
is_three Other = refl

pub is_five : (m : Misc) → sameb misc-type m M05 ≡ is_m 5 m
unfolding is_m misc_number
is_five M00 = refl
is_five M02 = refl
is_five M03 = refl
is_five M05 = refl
is_five M30 = refl
is_five M98 = refl
is_five M99 = refl
is_five Other = refl

module _ (s : State) (b : Said) {t : Bool} (is : t ≡ is_m 3 b.misc) where
  abbrev speaks : Bool
  speaks = s.turning && is_some b.values.s || t

  pub spindle_one : {speed : Len} → speed ≡ (working s b).speed → speaks ≡ true → brief_records (Some (Speed speed)) ≡ spindle_records s b
  unfolding spindle_records brief_records
  spindle_one f e = rw (rw is at e, f)

  pub spindle_none : speaks ≡ false → brief_records None ≡ spindle_records s b
  unfolding spindle_records brief_records
  spindle_none e = rw (rw is at e)

pub last_none : (m : Misc) → (m ≡ M00 → ⊥) → (m ≡ M02 → ⊥) → (m ≡ M05 → ⊥) → (m ≡ M30 → ⊥) → brief_records None ≡ last_records m
unfolding last_records brief_records is_m misc_number
last_none M00 a b c d = absurd (a refl)
last_none M02 a b c d = absurd (b refl)
last_none M03 a b c d = refl
last_none M05 a b c d = absurd (c refl)
last_none M30 a b c d = absurd (d refl)
last_none M98 a b c d = refl
last_none M99 a b c d = refl
last_none Other a b c d = refl

pub leads_on : (b : Said) → (b.misc ≡ M98 → ⊥) → (b.misc ≡ M99 → ⊥) → (b.misc ≡ M02 → ⊥) → (b.misc ≡ M30 → ⊥) → On ≡ control_of b
unfolding control_of is_m misc_number
leads_on b p q r t = go b.misc refl
  where
    go : (m : Misc) → b.misc ≡ m → On ≡ control_of b
    go M00 e = rw e
    go M02 e = absurd (r e)
    go M03 e = rw e
    go M05 e = rw e
    go M30 e = absurd (t e)
    go M98 e = absurd (p e)
    go M99 e = absurd (q e)
    go Other e = rw e
