-- Document 01, "Data set and blocks": the openings, the main program and the subprograms.
use Rattle.std.specs.Prelude.{Result, Ok, Err, ◌+◌, ◌-◌, ◌&&◌, ◌||◌, ◌∷◌, ◌++◌, if◌then◌else◌}
use Rattle.terms.specs.Common.{ℕ, Bool, true, false, Option, None, Some, List, [], eqb, leb, length, drop}
use Rattle.terms.specs.Terms.{any, first, from_to}
use Rattle.refusals.specs.declared.{Refusal.Refusal, Refusal.TheVariants.BadParameter, Refusal.TheVariants.DuplicateNumber, Refusal.TheVariants.TableOver, Place.Place}
use Rattle.words.specs.Numbers.{is_digit, run, digits_after}
use Rattle.lines.specs.{Gaps.only_gaps, Blocks.Block, Blocks.closes, Blocks.opens}
use Rattle.programs.specs.declared.Program.{Program}

-- the digits that a text begins with; an opening has eight of them at most
abbrev pub figures_of : List ℕ → List ℕ
figures_of text = run is_digit text

-- "`O`, one to eight digits, value 1 to 9999, then only blanks and comments; else 1.": what follows the `O`
unfoldable pub number_after_o : List ℕ → Option ℕ
number_after_o bs =
    let figures = run is_digit bs in
    let value = digits_after 0 figures in
    if from_to 1 8 (length figures) && from_to 1 9_999 value && only_gaps (drop (length figures) bs) then Some value else None

unfoldable pub opening_of : Block → Option ℕ
opening_of b = number_after_o (drop 1 b.text)

abbrev pub place_of : Block → Place
place_of b = record { block = b.number; byte = b.start }

-- the program that begins after a block
abbrev pub program_after : ℕ → Block → Program
program_after number b = record { number = number; block = b.number + 1; byte = b.next }

-- What the openings give: the place where the main program begins, with the subprograms; or the first refusal.
pub data Table : Type 0 where
  table : Program → List Program → Table
  refused_at : Refusal → Place → Table

-- "All others are subprograms, ten at most."
abbrev pub most : ℕ
most = 10

-- "Numbers compare by value: `O1` and `O0001` are the same." "The main number counts for duplicates": it is 0, which no
-- opening has, where the main has no opening.
unfoldable pub is_taken : Program → List Program → ℕ → Bool
is_taken main subs n = eqb n main.number || any (λ p. eqb n p.number) subs

-- "per opening 1, 8, 7": a subprogram's opening is refused, or enters its number
unfoldable pub entry_of : Program → List Program → Option ℕ → Result ℕ Refusal
entry_of main subs None = Err BadParameter
entry_of main subs (Some n) =
    if is_taken main subs n then Err DuplicateNumber
    else (if leb most (length subs) then Err TableOver
    else Ok n)

unfoldable pub entered : Result ℕ Refusal → List Program → Block → (List Program → Table) → Table
entered (Err refusal) subs b rest = refused_at refusal (place_of b)
entered (Ok n) subs b rest = rest (subs ++ program_after n b ∷ [])

unfoldable pub scan_block : Bool → Bool → Program → List Program → Block → (List Program → Table) → Table
scan_block true isOpening main subs b rest = table main subs
scan_block false true main subs b rest = entered (entry_of main subs (opening_of b)) subs b rest
scan_block false false main subs b rest = rest subs

-- the openings of the blocks, up to the closing `%`
unfoldable pub scan : Program → List Block → List Program → Table
scan main [] subs = table main subs
scan main (b ∷ bs) subs = scan_block (closes b) (opens b) main subs b (scan main bs)

-- "Blocks before any `O`, or under the first `O` where that is the second block, are the main program."
unfoldable pub main_as : Option ℕ → Block → List Block → Table
main_as None b bs = refused_at BadParameter (place_of b)
main_as (Some n) b bs = scan (program_after n b) bs []

unfoldable pub programs_from : Block → List Block → Table
programs_from percent [] = table (program_after 0 percent) []
programs_from percent (b ∷ bs) =
    if opens b then main_as (opening_of b) b bs else scan (program_after 0 percent) (b ∷ bs) []

-- the subprogram of a number
unfoldable pub known : List Program → ℕ → Option Program
known programs n = first (λ p. eqb p.number n) programs

-- the blocks of a program, and what follows them
abbrev pub blocks_at : List Block → Program → List Block
blocks_at bs p = drop (p.block - 1) bs
