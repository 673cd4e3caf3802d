-- A block that is accepted has passed every test of the rules, so that it keeps what a run counts on. Assumes nothing.
use Rattle.terms.proofs.Common.{ℕ, ◌≡◌, refl, sym, ap, ◌∙◌, Bool, true, false, not, Option, None, Some, List, [], ◌∷◌, ◌++◌, append-nil, arith, ltb, ltb-false, not-false}
use Rattle.terms.specs.Terms.{first_of}
use Rattle.refusals.specs.declared.Refusal.{Refusal, TheVariants.BadParameter, TheVariants.LeavesTravel, TheVariants.NoRoom}
use Rattle.refusals.specs.declared.Blame.{Blame}
use Rattle.words.specs.{declared.Word.Word, Words.Words, Words.these, Words.bad_at, Words.words_of}
use Rattle.records.specs.{declared.Record.Record, Layout.room_of, Path.path_stays_in}
use Rattle.setup.specs.{declared.Bed.Bed, Fair.Fair}
use Rattle.settings.specs.declared.State.{State}
use Rattle.letters.specs.Letters.{first_bad_value}
use Rattle.blocks.specs.{declared.Said.Said, declared.Control.Control, Machine.Machine, Machine.machine_of, Reach.Reachable, Reach.Steady, Keeping.Keeps}
use Rattle.blocks.specs.Exec.{Calls, accepted, said_by, made_by, settled, control_of, at_word, at_start, blames, unless, judged, exec_words, exec}
use Rattle.blocks.proofs.{Meaning.meant, Making.made_short, Making.kept}

-- ---- where no test blames, each passed

abbrev pub AllNone : List (Option Blame) → Type 0
AllNone [] = Unit
AllNone (o ∷ os) = (o ≡ None) × AllNone os

pub none_before : (os last : List (Option Blame)) → first_of (os ++ last) ≡ None → AllNone os × (first_of last ≡ None)
unfolding first_of
none_before [] last e = (tt, e)
none_before (None ∷ os) last e = let h = none_before os last e in ((refl, h.0), h.1)
none_before (Some blame ∷ os) last e = let no : ◌≡◌ {A = ℕ} 0 1 = cc in absurd (omega arith)

pub all_none : (os : List (Option Blame)) → first_of os ≡ None → AllNone os
all_none os e = (none_before os [] (ap first_of (append-nil os) ∙ e)).0

-- what has passed is passed over
pub past_all : (os last : List (Option Blame)) → AllNone os → first_of (os ++ last) ≡ first_of last
unfolding first_of
past_all [] last h = refl
past_all (o ∷ os) last h = rw h.0 (past_all os last h.1)

pub word_none : (refusal : Refusal) (o : Option Word) → at_word refusal o ≡ None → o ≡ None
unfolding at_word
word_none refusal None e = refl
word_none refusal (Some w) e = let no : ◌≡◌ {A = ℕ} 0 1 = cc in absurd (omega arith)

pub start_none : (start : ℕ) (refusal : Refusal) (test : Bool) → at_start start refusal test ≡ None → test ≡ false
unfolding at_start
start_none start refusal true e = let no : ◌≡◌ {A = ℕ} 0 1 = cc in absurd (omega arith)
start_none start refusal false e = refl

-- an accepted block is blamed for nothing, and its verdict is the one of the rules
pub judged_accepts :
    (machine : Machine) (calls : Calls) (room : ℕ) (s : State) (start : ℕ) (ws : List Word) (b : Said)
    {after : State} {control : Control} {done : List Record} → judged machine calls room s start ws b ≡ accepted after control done
    → (first_of (blames machine calls room s start ws b) ≡ None)
    × (accepted after control done ≡ accepted (settled machine s b) (control_of b) (made_by machine s b))
unfolding judged unless
judged_accepts machine calls room s start ws b {after} {control} {done} = go (first_of (blames machine calls room s start ws b)) refl
  where
    go :
        (o : Option Blame) → first_of (blames machine calls room s start ws b) ≡ o
        → unless o (accepted (settled machine s b) (control_of b) (made_by machine s b)) ≡ accepted after control done
        → (first_of (blames machine calls room s start ws b) ≡ None)
        × (accepted after control done ≡ accepted (settled machine s b) (control_of b) (made_by machine s b))
    go None f g = (f, sym g)
    go (Some blame) f g = let no : ◌≡◌ {A = ℕ} 0 1 = cc in absurd (omega arith)

module _ (bed : Bed) (calls : Calls) (room : ℕ) (s : State) (start : ℕ) (fair : Fair bed) (state : Reachable bed s) where
  module _ (ws : List Word) where
    abbrev b : Said
    b = said_by (machine_of bed) s.modes ws

    abbrev made : List Record
    made = made_by (machine_of bed) s b

    keeps : first_of (blames (machine_of bed) calls room s start ws b) ≡ None → Keeps bed room s (settled (machine_of bed) s b) made
    unfolding blames settled said_by
    keeps e =
        let passed = all_none (blames (machine_of bed) calls room s start ws b) e in
        let values = word_none BadParameter (first_bad_value (machine_of bed).speeds b.modes b.code ws) passed.1.1.0 in
        let last = passed.1.1.1.1.1.1.1.1.1 in
        let stays = not-false _ (start_none start LeavesTravel (not (path_stays_in (machine_of bed).stays s.at made)) last.0) in
        let fits = start_none start NoRoom (ltb room (room_of made)) last.1.0 in
        let steady : Steady bed s b = record { fair = fair; state = state; said = meant bed s ws fair state values } in
        record {
          state = kept bed s b steady stays;
          short = made_short bed s b steady stays;
          stays = stays;
          ends = refl;
          fits = ltb-false room (room_of made) fits;
        }

    judged_kept :
        (after : State) (control : Control) (done : List Record)
        → judged (machine_of bed) calls room s start ws b ≡ accepted after control done → Keeps bed room s after done
    judged_kept after control done e =
        let h = judged_accepts (machine_of bed) calls room s start ws b e in
        let is = h.1 in
        let same : after ≡ settled (machine_of bed) s b = cc in
        let all : done ≡ made = cc in
        rw (same, all) (keeps h.0)

  words_kept :
      (words : Words) (after : State) (control : Control) (done : List Record)
      → exec_words (machine_of bed) calls room s start words ≡ accepted after control done → Keeps bed room s after done
  unfolding exec_words
  words_kept (these ws) after control done e = judged_kept ws after control done e
  words_kept (bad_at at) after control done e = let no : ◌≡◌ {A = ℕ} 0 1 = cc in absurd (omega arith)

  pub accepted_kept :
      (at : ℕ) (text : List ℕ) (after : State) (control : Control) (made : List Record)
      → exec (machine_of bed) calls room s start at text ≡ accepted after control made → Keeps bed room s after made
  unfolding exec
  accepted_kept at text after control made e = words_kept (words_of at text) after control made e
