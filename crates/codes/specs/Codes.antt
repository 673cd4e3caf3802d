-- Document 01, "Codes": the groups of the G codes, their meaning, and the M codes.
use Rattle.std.specs.Prelude.{◌≡◌, ◌&&◌, ◌||◌, ◌∷◌, Result, Ok, Err}
use Rattle.terms.specs.Common.{ℕ, Bool, List, [], eqb}
use Rattle.terms.specs.Terms.{lookup}
use Rattle.codes.specs.declared.{NoPlane.NoPlane, Plane.Plane, Plane.TheVariants.G17, Plane.TheVariants.G18, Plane.TheVariants.G19, Unit.TheVariants.Inch, Unit.TheVariants.Millimetre}
use Rattle.codes.specs.declared.{Distance.TheVariants.Absolute, Distance.TheVariants.Incremental, Return.TheVariants.ToInitial, Return.TheVariants.ToR, Code.Code, Misc.Misc}
use Rattle.codes.specs.declared.Cycle.{Cycle, TheVariants.G81, TheVariants.G82, TheVariants.G85, TheVariants.G89}
use Rattle.codes.specs.declared.Motion.TheVariants.{Off, G00, G01, G02, G03, Drilling}
use Rattle.codes.specs.declared.Code.TheVariants.{GroupA, GroupB, GroupC, GroupD, GroupE, GroupF, G04, Unknown}
use Rattle.codes.specs.declared.Misc.TheVariants.{M00, M02, M03, M05, M30, M98, M99, Other}

abbrev pub g_table : List (ℕ × Code)
g_table =
    -- "Group A: G00 G01 G02 G03 G80 G81 G82 G85 G89."
    (0, GroupA G00) ∷ (1, GroupA G01) ∷ (2, GroupA G02) ∷ (3, GroupA G03) ∷ (80, GroupA Off)
    ∷ (81, GroupA (Drilling G81)) ∷ (82, GroupA (Drilling G82)) ∷ (85, GroupA (Drilling G85)) ∷ (89, GroupA (Drilling G89))
    -- "B: G17 to G19."
    ∷ (17, GroupB G17) ∷ (18, GroupB G18) ∷ (19, GroupB G19)
    -- "C: G20 G21."
    ∷ (20, GroupC Inch) ∷ (21, GroupC Millimetre)
    -- "D: G90 G91."
    ∷ (90, GroupD Absolute) ∷ (91, GroupD Incremental)
    -- "E: G54 to G59."
    ∷ (54, GroupE 0) ∷ (55, GroupE 1) ∷ (56, GroupE 2) ∷ (57, GroupE 3) ∷ (58, GroupE 4) ∷ (59, GroupE 5)
    -- "F: G98 G99."
    ∷ (98, GroupF ToInitial) ∷ (99, GroupF ToR)
    -- "G04 is its own group."
    ∷ (4, G04) ∷ []

unfoldable pub code_of : ℕ → Code
code_of n = lookup n g_table Unknown

abbrev pub m_table : List (ℕ × Misc)
m_table =
    -- "M: 00 02 03 05 30 98 99."
    (0, M00) ∷ (2, M02) ∷ (3, M03) ∷ (5, M05) ∷ (30, M30) ∷ (98, M98) ∷ (99, M99) ∷ []

unfoldable pub misc_of : ℕ → Misc
misc_of n = lookup n m_table Other

-- a group as a number, A to F and then G04's own; an unknown code is in none
unfoldable pub group_of : Code → ℕ
group_of (GroupA m) = 1
group_of (GroupB p) = 2
group_of (GroupC u) = 3
group_of (GroupD d) = 4
group_of (GroupE k) = 5
group_of (GroupF r) = 6
group_of G04 = 7
group_of Unknown = 0

unfoldable pub is_group_a : Code → Bool
is_group_a c = eqb (group_of c) 1

unfoldable pub is_g04 : Code → Bool
is_g04 c = eqb (group_of c) 7

-- "One code of a group in a block" "G04 does not stand with group A."
unfoldable pub clash : Code → Code → Bool
clash c d = eqb (group_of c) (group_of d) || is_group_a c && is_g04 d || is_g04 c && is_group_a d

-- the number of an M code; Other is none of them, and has a number that none of them has
unfoldable pub misc_number : Misc → ℕ
misc_number M00 = 0
misc_number M02 = 2
misc_number M03 = 3
misc_number M05 = 5
misc_number M30 = 30
misc_number M98 = 98
misc_number M99 = 99
misc_number Other = 100

-- the number of a cycle's code
unfoldable pub cycle_number : Cycle → ℕ
cycle_number G81 = 81
cycle_number G82 = 82
cycle_number G85 = 85
cycle_number G89 = 89

unfoldable pub is_m : ℕ → Misc → Bool
is_m n m = eqb (misc_number m) n

abbrev pub is_no_m : Misc → Bool
is_no_m m = is_m 100 m

abbrev pub ends_program : Misc → Bool
ends_program m = is_m 2 m || is_m 30 m

-- the number of a plane's code
abbrev pub plane_number : Plane → ℕ
plane_number G17 = 17
plane_number G18 = 18
plane_number G19 = 19

-- a plane told from a number has that number; where none is told, no plane has it
abbrev pub NumbersPlane : ℕ → Result Plane NoPlane → Type 0
NumbersPlane n (Ok plane) = plane_number plane ≡ n
NumbersPlane n (Err e) = (plane : Plane) → plane_number plane ≡ n → ⊥
