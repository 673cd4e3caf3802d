-- Document 01, "Codes" and "The sixteen refusals": which words may stand in a block, what they mean there, and the
-- refusals 4, 2 and 1 that name a word.
use Rattle.std.specs.Prelude.{◌&&◌, ◌||◌, ◌∷◌, ◌++◌, if◌then◌else◌}
use Rattle.terms.specs.Common.{ℕ, Bool, true, false, not, Option, None, Some, List, [], map, eqb}
use Rattle.terms.specs.Terms.{byte, bytes, any, first, lookup}
use Rattle.codes.specs.declared.{Cycle.Cycle, Cycle.TheVariants.G81, Cycle.TheVariants.G82, Cycle.TheVariants.G85, Cycle.TheVariants.G89, Motion.Motion}
use Rattle.codes.specs.declared.{Plane.Plane, Plane.TheVariants.G17, Plane.TheVariants.G18, Plane.TheVariants.G19, Code.Code, Code.TheVariants.Unknown, Misc.Misc, Misc.TheVariants.Other}
use Rattle.codes.specs.declared.Motion.TheVariants.{Off, G00, G01, G02, G03, Drilling}
use Rattle.codes.specs.Codes.{code_of, misc_of, group_of, is_group_a, is_g04, clash, is_m, is_no_m, ends_program}
use Rattle.words.specs.declared.{Word.Word, Use.Use, Values.Values}
use Rattle.words.specs.Values.{is_plain, value_of, no_values}
use Rattle.words.specs.declared.Use.TheVariants.{Nothing, Codes, Label, Program, Length, Feed, Speed, Dwell, Count}
use Rattle.lengths.specs.declared.Len.{Len}
use Rattle.settings.specs.{declared.Modes.Modes, Settings.switched}
use Rattle.letters.specs.declared.{Speeds.Speeds, BlockCode.BlockCode}
use Rattle.letters.specs.declared.BlockCode.TheVariants.{Calling, Returning, Dwelling, Moving}

-- the letters that words are made of, all others being unknown
abbrev pub known : List ℕ
known = bytes "FGIJKMNPRSXYZ"

unfoldable pub is_known : ℕ → Bool
is_known letter = any (eqb letter) known

abbrev pub is_g : Word → Bool
is_g w = eqb w.letter (byte "G")

abbrev pub is_misc : Word → Bool
is_misc w = eqb w.letter (byte "M")

-- "A G or M that breaks this is an unknown code (4)"; "`G1` is `G01`": the code is the number's value
unfoldable pub code_in : Word → Code
code_in w = if is_plain w.number then code_of w.number.digits else Unknown

unfoldable pub misc_in : Word → Misc
misc_in w = if is_plain w.number then misc_of w.number.digits else Other

-- "M98 P: .. its block has only N and P besides. M99: returns; only N besides."
unfoldable pub stands_alone : Misc → Bool
stands_alone m = is_m 98 m || is_m 99 m

-- "M99 in the main, M02 or M30 in a subprogram: refusal 4."
unfoldable pub wrong_program : Bool → Misc → Bool
wrong_program in_main m = if in_main then is_m 99 m else ends_program m

-- "4 leftmost for unknown or repeated letters (not G) and codes that may not stand", "the later of two that clash": what
-- is wrong with a word, given the words before it
unfoldable pub repeats : List Word → Word → Bool
repeats before w = not (is_g w) && any (λ e. eqb e.letter w.letter) before

unfoldable pub bad_g : List Word → Word → Bool
bad_g before w =
    eqb (group_of (code_in w)) 0
    || any (λ e. is_g e && clash (code_in e) (code_in w)) before
    || any (λ e. is_misc e && stands_alone (misc_in e)) before

unfoldable pub bad_m : Bool → List Word → Word → Bool
bad_m in_main before w =
    is_no_m (misc_in w) || wrong_program in_main (misc_in w) || stands_alone (misc_in w) && any is_g before

unfoldable pub may_not_stand : Bool → List Word → Word → Bool
may_not_stand in_main before w =
    not (is_known w.letter) || repeats before w || is_g w && bad_g before w || is_misc w && bad_m in_main before w

unfoldable pub first_that_may_not : Bool → List Word → List Word → Option Word
first_that_may_not in_main before [] = None
first_that_may_not in_main before (w ∷ ws) =
    if may_not_stand in_main before w then Some w else first_that_may_not in_main (before ++ w ∷ []) ws

-- the M code of a block, Other where it has none
unfoldable pub misc_or_other : Option Word → Misc
misc_or_other None = Other
misc_or_other (Some w) = misc_in w

unfoldable pub misc_of_block : List Word → Misc
misc_of_block ws = misc_or_other (first is_misc ws)

-- the codes of groups A to F that the block names are on in it
unfoldable pub modes_in : Modes → List Word → Modes
modes_in m [] = m
modes_in m (w ∷ ws) = modes_in (if is_g w then switched m (code_in w) else m) ws

unfoldable pub names_group_a : List Word → Bool
names_group_a ws = any (λ w. is_g w && is_group_a (code_in w)) ws

unfoldable pub names_g04 : List Word → Bool
names_g04 ws = any (λ w. is_g w && is_g04 (code_in w)) ws

-- "A block's code, which decides its letters, is M98, M99 or G04, else the group A code named or on"
unfoldable pub code_under : Misc → Bool → Motion → BlockCode
code_under misc dwells motion =
    if is_m 98 misc then Calling else (if is_m 99 misc then Returning else (if dwells then Dwelling else Moving motion))

unfoldable pub block_code : Modes → List Word → BlockCode
block_code m ws = code_under (misc_of_block ws) (names_g04 ws) m.motion

-- what a letter means by a table of letters
abbrev pub used_in : List (ℕ × Use) → ℕ → Use
used_in rows letter = lookup letter rows Nothing

-- letters with one use
abbrev pub each : List ℕ → Use → List (ℕ × Use)
each letters use' = map (λ letter. (letter, use')) letters

-- "with any of X Y Z"
abbrev pub straight_letters : List (ℕ × Use)
straight_letters = each (bytes "XYZ") Length

-- "end as in G01 on the plane's two axes, centre by its distance from the start in the plane's letters (I J for G17, K I
-- for G18 as Z then X, J K for G19)"
unfoldable pub end_letters : Plane → List ℕ
end_letters G17 = bytes "XY"
end_letters G18 = bytes "ZX"
end_letters G19 = bytes "YZ"

unfoldable pub centre_letters : Plane → List ℕ
centre_letters G17 = bytes "IJ"
centre_letters G18 = bytes "KI"
centre_letters G19 = bytes "JK"

-- and R (document 02, #101), which stands instead of a centre: `isUnused`
unfoldable pub arc_letters : Plane → List (ℕ × Use)
arc_letters plane = (byte "R", Length) ∷ each (end_letters plane ++ centre_letters plane) Length

-- "Cycles use X Y Z R K, and P in G82 and G89 only."
abbrev pub cycle_letters : List (ℕ × Use)
cycle_letters = (byte "K", Count) ∷ each (bytes "XYZR") Length

abbrev pub dwelling_cycle_letters : List (ℕ × Use)
dwelling_cycle_letters = (byte "P", Dwell) ∷ cycle_letters

unfoldable pub drilling_letters : Cycle → List (ℕ × Use)
drilling_letters G81 = cycle_letters
drilling_letters G82 = dwelling_cycle_letters
drilling_letters G85 = cycle_letters
drilling_letters G89 = dwelling_cycle_letters

unfoldable pub motion_letters : Motion → Plane → List (ℕ × Use)
motion_letters Off plane = []
motion_letters G00 plane = straight_letters
motion_letters G01 plane = straight_letters
motion_letters G02 plane = arc_letters plane
motion_letters G03 plane = arc_letters plane
motion_letters (Drilling cycle) plane = drilling_letters cycle

-- "F and S go with all but M98 and M99."
abbrev pub feed_and_speed : List (ℕ × Use)
feed_and_speed = (byte "F", Feed) ∷ (byte "S", Speed) ∷ []

abbrev pub call_letters : List (ℕ × Use)
call_letters = (byte "P", Program) ∷ []

abbrev pub dwell_letters : List (ℕ × Use)
dwell_letters = (byte "P", Dwell) ∷ feed_and_speed

unfoldable pub letters_of : BlockCode → Plane → List (ℕ × Use)
letters_of Calling plane = call_letters
letters_of Returning plane = []
letters_of Dwelling plane = dwell_letters
letters_of (Moving motion) plane = feed_and_speed ++ motion_letters motion plane

-- what a letter means in a block; N goes with every block, and G and M are the codes themselves
unfoldable pub use_of : BlockCode → Plane → ℕ → Use
use_of code plane letter =
    used_in ((byte "N", Label) ∷ (byte "G", Codes) ∷ (byte "M", Codes) ∷ letters_of code plane) letter

unfoldable pub is_nothing : Use → Bool
is_nothing Nothing = true
is_nothing Codes = false
is_nothing Label = false
is_nothing Program = false
is_nothing Length = false
is_nothing Feed = false
is_nothing Speed = false
is_nothing Dwell = false
is_nothing Count = false

unfoldable pub turns : Motion → Bool
turns Off = false
turns G00 = false
turns G01 = false
turns G02 = true
turns G03 = true
turns (Drilling cycle) = false

unfoldable pub is_arc : BlockCode → Bool
is_arc Calling = false
is_arc Returning = false
is_arc Dwelling = false
is_arc (Moving motion) = turns motion

unfoldable pub names_centre : Plane → List Word → Bool
names_centre plane ws = any (λ w. any (eqb w.letter) (centre_letters plane)) ws

-- an arc with a centre word of its plane
unfoldable pub has_centre : BlockCode → Plane → List Word → Bool
has_centre code plane ws = is_arc code && names_centre plane ws

-- "2 leftmost"; "R beside a centre word is 2": `centred` tells that the block is an arc with one
unfoldable pub is_unused : BlockCode → Plane → Bool → Word → Bool
is_unused code plane centred w = is_nothing (use_of code plane w.letter) || centred && eqb w.letter (byte "R")

unfoldable pub first_unused : BlockCode → Plane → Bool → List Word → Option Word
first_unused code plane centred ws = first (is_unused code plane centred) ws

-- "1 leftmost by value"
unfoldable pub word_value : Speeds → Modes → BlockCode → Word → Option Len
word_value speeds m code w =
    value_of m.unit speeds.lowest.v speeds.highest.v (use_of code m.plane w.letter) w.number

unfoldable pub is_bad : Option Len → Bool
is_bad (Some v) = false
is_bad None = true

unfoldable pub first_bad_value : Speeds → Modes → BlockCode → List Word → Option Word
first_bad_value speeds m code ws = first (λ w. is_bad (word_value speeds m code w)) ws

-- the values of the block's words, word by word
unfoldable pub with_value : Values → ℕ → Option Len → Values
with_value v letter g =
    record {
      x = if eqb letter (byte "X") then g else v.x;
      y = if eqb letter (byte "Y") then g else v.y;
      z = if eqb letter (byte "Z") then g else v.z;
      i = if eqb letter (byte "I") then g else v.i;
      j = if eqb letter (byte "J") then g else v.j;
      k = if eqb letter (byte "K") then g else v.k;
      r = if eqb letter (byte "R") then g else v.r;
      p = if eqb letter (byte "P") then g else v.p;
      f = if eqb letter (byte "F") then g else v.f;
      s = if eqb letter (byte "S") then g else v.s;
    }

unfoldable pub values_after : Values → Speeds → Modes → BlockCode → List Word → Values
values_after v speeds m code [] = v
values_after v speeds m code (w ∷ ws) =
    values_after (with_value v w.letter (word_value speeds m code w)) speeds m code ws

abbrev pub values_of : Speeds → Modes → BlockCode → List Word → Values
values_of speeds m code ws = values_after no_values speeds m code ws
