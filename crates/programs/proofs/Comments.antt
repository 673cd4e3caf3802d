-- Data that differs only inside comments has the same programs.
use Rattle.std.specs.Prelude.{Result, Ok, Err, if◌then◌else◌}
use Rattle.terms.proofs.Common.{ℕ, ◌≡◌, refl, Bool, true, false, false≢true, Option, None, Some, List, [], ◌∷◌, ◌++◌, drop}
use Rattle.refusals.specs.declared.Refusal.{Refusal, TheVariants.BadParameter}
use Rattle.lines.specs.Blocks.{begins_with, Block, closes, opens}
use Rattle.lines.proofs.Comments.{run_alike, past_run, gaps_alike, begins_alike, percent_alike}
use Rattle.lines.specs.Alike.{Alike, nothing, outside, begins, AlikeBlock, AlikeBlocks, none, more}
use Rattle.words.specs.Numbers.{is_digit}
use Rattle.programs.specs.declared.Program.{Program}
use Rattle.programs.specs.Openings.{number_after_o, opening_of, place_of, program_after, Table, refused_at, entry_of, entered, scan_block, scan, main_as, programs_from}

number_alike : {s t : List ℕ} → Alike false s t → number_after_o s ≡ number_after_o t
unfolding number_after_o
number_alike {s} {t} r = rw (← run_alike (λ b. is_digit b) refl r, ← gaps_alike (past_run (λ b. is_digit b) refl r))

-- past a first byte that is `O` no comment is open
past_first : {s t : List ℕ} → Alike false s t → begins_with 79 s ≡ true → Alike false (drop 1 s) (drop 1 t)
unfolding begins_with
past_first nothing e = nothing
past_first (outside f r) e = r
past_first (begins r) e = absurd (false≢true e)

module _ {a b : Block} (same : AlikeBlock a b) where
  opens_alike : opens a ≡ opens b
  opens_alike = begins_alike 79 same.text

  opening_alike : opens a ≡ true → opening_of a ≡ opening_of b
  unfolding opening_of
  opening_alike e = number_alike (past_first same.text e)

  refused_alike : (refusal : Refusal) → refused_at refusal (place_of a) ≡ refused_at refusal (place_of b)
  refused_alike refusal = rw (same.number, same.start)

  program_alike : (n : ℕ) → program_after n a ≡ program_after n b
  program_alike n = rw (same.number, same.next)

  module _ (f g : List Program → Table) (on : (subs : List Program) → f subs ≡ g subs) (subs : List Program) where
    entered_alike : (e : Result ℕ Refusal) → entered e subs a f ≡ entered e subs b g
    unfolding entered
    entered_alike (Err refusal) = refused_alike refusal
    entered_alike (Ok n) = rw (program_alike n) (on (subs ++ program_after n b ∷ []))

    block_alike : (main : Program) → scan_block (closes a) (opens a) main subs a f ≡ scan_block (closes b) (opens b) main subs b g
    unfolding scan_block
    block_alike main = rw (← percent_alike same.text, ← opens_alike) (go (closes a) (opens a) opening_alike)
      where
        go : (end opening : Bool) → (opening ≡ true → opening_of a ≡ opening_of b) → scan_block end opening main subs a f ≡ scan_block end opening main subs b g
        go true opening h = refl
        go false true h = rw (h refl) (entered_alike (entry_of main subs (opening_of b)))
        go false false h = on subs

scan_alike : {as' bs : List Block} (main : Program) → AlikeBlocks as' bs → (subs : List Program) → scan main as' subs ≡ scan main bs subs
unfolding scan
scan_alike main none subs = refl
scan_alike main (more {a} {b} {as'} {bs} same r) subs = block_alike same (scan main as') (scan main bs) (scan_alike main r) subs main

main_alike : {a b : Block} {as' bs : List Block} (o : Option ℕ) → AlikeBlock a b → AlikeBlocks as' bs → main_as o a as' ≡ main_as o b bs
unfolding main_as
main_alike None same r = refused_alike same BadParameter
main_alike {b = b} (Some n) same r = rw (program_alike same n) (scan_alike (program_after n b) r [])

-- the table of programs, or the first opening's refusal, does not hang on what stands inside comments
pub programs_alike : {p q : Block} {as' bs : List Block} → AlikeBlock p q → AlikeBlocks as' bs → programs_from p as' ≡ programs_from q bs
unfolding programs_from
programs_alike {p} {q} same none = rw (program_alike same 0)
programs_alike {p} {q} same (more {a} {b} {as'} {bs} first r) =
    rw (← opens_alike first) (go (opens a) (opening_alike first))
  where
    go : (opening : Bool) → (opening ≡ true → opening_of a ≡ opening_of b) → (if opening then main_as (opening_of a) a as' else scan (program_after 0 p) (a ∷ as') []) ≡ (if opening then main_as (opening_of b) b bs else scan (program_after 0 q) (b ∷ bs) [])
    go true h = rw (h refl) (main_alike (opening_of b) first r)
    go false h = rw (program_alike same 0) (scan_alike (program_after 0 q) (more first r) [])
