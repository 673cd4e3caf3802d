-- The scan of the openings, block by block of the data.
use Rattle.std.specs.Prelude.{Result, Ok, Err}
use Rattle.terms.proofs.Common.{ℕ, ◌+◌, ◌≤◌, ◌<◌, ◌≡◌, refl, sym, ◌∙◌, ap, ap₂, true, false, false≢true, None, Some, List, [], arith, dec_lt, eq-eqb, ne_eqb, eqb-true, length, drop, get_or, length-drop}
use Rattle.lines.{specs.Serving.blocks_from, proofs.Laws.text_at}
use Rattle.lines.specs.Blocks.{begins_with, text_from, length_from, Block, block_from, is_percent}
use Rattle.lines.proofs.Lines.{blocks_step, blocks_end, text_begins_end, text_begins_at, no_text_other, percent_not, length_bound, length_at_lf, length_at_more}
use Rattle.refusals.specs.declared.Refusal.{Refusal, TheVariants.BadParameter}
use Rattle.programs.specs.Found.{subs_of, Entered, Empty}
use Rattle.programs.specs.declared.{Program.Program, table.Programs.Programs}
use Rattle.programs.specs.Openings.{table, refused_at, number_after_o, opening_of, entry_of, entered, scan_block, scan, main_as, programs_from, program_after}

-- what follows an `O`
text_after_o : (l : List ℕ) (at : ℕ) → at < length l → get_or l at 0 ≡ 79 → drop 1 (text_from (drop at l)) ≡ text_from (drop (at + 1) l)
text_after_o l at h f = ap (drop 1) (text_at l at (no_text_other l at h (λ g. omega arith) (λ g. omega arith)))

module _ (main : Program) (l : List ℕ) (n at : ℕ) (subs : List Program) where
  pub scan_end : length l ≤ at → scan main (blocks_from l n at) subs ≡ table main subs
  unfolding scan
  scan_end h = rw (blocks_end l n at h)

  module _ (h : at < length l) where
    pub scan_closed : is_percent (text_from (drop at l)) ≡ true → scan main (blocks_from l n at) subs ≡ table main subs
    unfolding scan scan_block
    scan_closed e = rw (blocks_step l n at h) (rw e)

    module _ (e : is_percent (text_from (drop at l)) ≡ false) where
      pub scan_plain :
          (get_or l at 0 ≡ 79 → ⊥)
          → scan main (blocks_from l n at) subs ≡ scan main (blocks_from l (n + 1) (at + length_from (drop at l))) subs
      unfolding scan scan_block
      scan_plain f =
          rw (blocks_step l n at h) (rw (e, text_begins_at 79 l at h (omega arith), ne_eqb (get_or l at 0) 79 f))

      pub scan_opening :
          get_or l at 0 ≡ 79
          → scan main (blocks_from l n at) subs
          ≡ entered (entry_of main subs (number_after_o (text_from (drop (at + 1) l)))) subs (block_from n at (drop at l))
          (scan main (blocks_from l (n + 1) (at + length_from (drop at l))))
      unfolding scan scan_block opening_of
      scan_opening f =
          rw (blocks_step l n at h)
          (rw (e, text_begins_at 79 l at h (omega arith), eq-eqb (get_or l at 0) 79 f) (rw (text_after_o l at h f)))

-- A scan that began with `first` at a place and has come to another: what is left gives the same.
pub record Scan (l : List ℕ) (from number : ℕ) (first now : Programs) (at block : ℕ) : Type 0 where
  pub counted : block ≤ at + 1
  pub main : now.main ≡ first.main
  pub left : scan first.main (blocks_from l number from) (subs_of first) ≡ scan first.main (blocks_from l block at) (subs_of now)

pub scan_start : (l : List ℕ) (from number : ℕ) (t : Programs) → number ≤ from + 1 → Scan l from number t t from number
scan_start l from number t k = record { counted = k; main = refl; left = refl }

-- a block lies inside the data
pub next_inside : (l : List ℕ) (at : ℕ) → at ≤ length l → at + length_from (drop at l) ≤ length l
next_inside l at h = omega (arith, length_bound (drop at l), length-drop at l)

-- a block that is neither the closing `%` nor an opening
abbrev Plain : List ℕ → ℕ → Type 0
Plain l at = (is_percent (text_from (drop at l)) ≡ false) × (get_or l at 0 ≡ 79 → ⊥)

-- A block that began at a place is passed byte by byte: it ends where it would from the byte reached, and past its first byte it is plain.
pub record Passing (l : List ℕ) (at i : ℕ) : Type 0 where
  pub begun : at ≤ i
  pub left : at + length_from (drop at l) ≡ i + length_from (drop i l)
  pub plain : at < i → Plain l at

pub passing_more :
    {l : List ℕ} {at i : ℕ} (next : ℕ) → Passing l at i → i < length l → (get_or l i 0 ≡ 10 → ⊥) → Plain l at
    → (i + 1 ≤ next) × (next + length_from (drop next l) ≡ i + 1 + length_from (drop (i + 1) l)) → Passing l at next
passing_more {l} {at} {i} next p h f t n = record { begun = omega arith; left = omega (arith, length_at_more l i h f); plain = λ k. t }

-- a block whose first byte is an LF is plain too
plain_lf : (l : List ℕ) (at i : ℕ) → Passing l at i → i < length l → get_or l i 0 ≡ 10 → Plain l at
plain_lf l at i p h e =
    elim (dec_lt at i) [
      | yes k ↦ p.plain k
      | no f ↦
          let same : at ≡ i = omega (arith, f) in
          let lf : get_or l at 0 ≡ 10 = ap (λ (k : ℕ). get_or l k 0) same ∙ e in
          (percent_not l at (omega arith) (λ g. omega arith), λ g. omega arith)
    ]

module _ {l : List ℕ} {from number : ℕ} {first now : Programs} {at block : ℕ} (s : Scan l from number first now at block) where
  -- a plain block is passed, its LF with it
  pub passed_plain : {i : ℕ} → Passing l at i → i < length l → get_or l i 0 ≡ 10 → Scan l from number first now (i + 1) (block + 1)
  passed_plain {i} p h e =
      let t = plain_lf l at i p h e in
      let next : at + length_from (drop at l) ≡ i + 1 = omega (arith, length_at_lf l i h e) in
      record {
        counted = omega arith;
        main = s.main;
        left =
            s.left ∙ scan_plain first.main l block at (subs_of now) (omega arith) t.0 t.1
            ∙ ap (λ (k : ℕ). scan first.main (blocks_from l (block + 1) k) (subs_of now)) next;
      }

  -- where the scan stops, the table is what it has
  stopped :
      scan first.main (blocks_from l block at) (subs_of now) ≡ table first.main (subs_of now)
      → table now.main (subs_of now) ≡ scan first.main (blocks_from l number from) (subs_of first)
  stopped e = ap (λ (p : Program). table p (subs_of now)) s.main ∙ sym (s.left ∙ e)

  pub stopped_end : {i : ℕ} → Passing l at i → length l ≤ i → table now.main (subs_of now) ≡ scan first.main (blocks_from l number from) (subs_of first)
  stopped_end p k =
      elim (dec_lt at (length l)) [
        | yes h ↦
            let t = p.plain (omega arith) in
            stopped (scan_plain first.main l block at (subs_of now) h t.0 t.1
            ∙ scan_end first.main l (block + 1) (at + length_from (drop at l)) (subs_of now) (omega arith))
        | no f ↦ stopped (scan_end first.main l block at (subs_of now) (omega (arith, f)))
      ]

  module _ (h : at < length l) where
    pub stopped_percent : is_percent (text_from (drop at l)) ≡ true → table now.main (subs_of now) ≡ scan first.main (blocks_from l number from) (subs_of first)
    stopped_percent e = stopped (scan_closed first.main l block at (subs_of now) h e)

    module _ (e : is_percent (text_from (drop at l)) ≡ false) where
      module _ (f : get_or l at 0 ≡ 79) (entry : Result ℕ Refusal) (was : entry_of now.main (subs_of now) (number_after_o (text_from (drop (at + 1) l))) ≡ entry) where
        at_opening :
            scan first.main (blocks_from l number from) (subs_of first)
            ≡ entered entry (subs_of now) (block_from block at (drop at l)) (scan first.main (blocks_from l (block + 1) (at + length_from (drop at l))))
        at_opening =
            s.left ∙ scan_opening first.main l block at (subs_of now) h e f
            ∙ ap
            (λ (x : Result ℕ Refusal). entered x (subs_of now) (block_from block at (drop at l)) (scan first.main (blocks_from l (block + 1) (at + length_from (drop at l)))))
            (ap (λ (p : Program). entry_of p (subs_of now) (number_after_o (text_from (drop (at + 1) l)))) (sym s.main) ∙ was)

      pub refused_opening :
          (refusal : Refusal) → get_or l at 0 ≡ 79 → entry_of now.main (subs_of now) (number_after_o (text_from (drop (at + 1) l))) ≡ Err refusal
          → refused_at refusal (record { block = block; byte = at }) ≡ scan first.main (blocks_from l number from) (subs_of first)
      unfolding entered
      refused_opening refusal f was = sym (at_opening f (Err refusal) was)

      pub passed_opening :
          (n next : ℕ) (with' : Programs) → get_or l at 0 ≡ 79 → entry_of now.main (subs_of now) (number_after_o (text_from (drop (at + 1) l))) ≡ Ok n
          → next ≡ at + length_from (drop at l) → Entered now (record { number = n; block = block + 1; byte = next }) with' → Scan l from number first with' next (block + 1)
      unfolding entered
      passed_opening n next with' f was g d =
          record {
            counted = omega (arith, s.counted, length_at_more l at h (λ e. omega arith));
            main = d.main ∙ s.main;
            left = at_opening f (Ok n) was ∙ rw (d.subs, ← g);
          }

-- the main program: without an opening, or under one in the second block
module _ (l : List ℕ) (at : ℕ) where
  pub opens_at : begins_with 79 (text_from (drop at l)) ≡ true → (at < length l) × (get_or l at 0 ≡ 79)
  opens_at e =
      elim (dec_lt at (length l)) [
        | yes h ↦ (h, eqb-true (get_or l at 0) 79 (sym (text_begins_at 79 l at h (omega arith)) ∙ e))
        | no f ↦
            let past : length l ≤ at = omega (arith, f) in
            absurd (false≢true (sym (text_begins_end 79 l at past) ∙ e))
      ]

  pub programs_plain :
      (percent : Block) → begins_with 79 (text_from (drop at l)) ≡ false
      → programs_from percent (blocks_from l 2 at) ≡ scan (program_after 0 percent) (blocks_from l 2 at) []
  unfolding programs_from scan
  programs_plain percent e =
      elim (dec_lt at (length l)) [
        | yes h ↦ rw (blocks_step l 2 at h) (rw e)
        | no f ↦
            let past : length l ≤ at = omega (arith, f) in
            rw (blocks_end l 2 at past)
      ]

  module _ (percent : Block) (e : begins_with 79 (text_from (drop at l)) ≡ true) where
    under_opening :
        programs_from percent (blocks_from l 2 at)
        ≡ main_as (number_after_o (text_from (drop (at + 1) l))) (block_from 2 at (drop at l)) (blocks_from l 3 (at + length_from (drop at l)))
    unfolding programs_from opening_of
    under_opening =
        let o = opens_at e in
        rw (blocks_step l 2 at o.0) (rw e (rw (text_after_o l at o.0 o.1)))

    pub programs_bad : number_after_o (text_from (drop (at + 1) l)) ≡ None → programs_from percent (blocks_from l 2 at) ≡ refused_at BadParameter (record { block = 2; byte = at })
    unfolding main_as
    programs_bad f = under_opening ∙ rw f

    pub programs_number :
        (n : ℕ) → number_after_o (text_from (drop (at + 1) l)) ≡ Some n
        → programs_from percent (blocks_from l 2 at)
        ≡ scan (record { number = n; block = 3; byte = at + length_from (drop at l) }) (blocks_from l 3 (at + length_from (drop at l))) []
    unfolding main_as
    programs_number n f = under_opening ∙ rw f

-- the same, as a search from the second block finds it, which begins at a place
module _ (l : List ℕ) (at : ℕ) (second : at ≡ 0 + length_from l) where
  from_second : programs_from (block_from 1 0 l) (blocks_from l 2 at) ≡ programs_from (block_from 1 0 l) (blocks_from l 2 (0 + length_from l))
  from_second = ap (λ (k : ℕ). programs_from (block_from 1 0 l) (blocks_from l 2 k)) second

  empty_scan : (n k : ℕ) {p : Program} {t : Programs} → Empty p t → scan t.main (blocks_from l n k) (subs_of t) ≡ scan p (blocks_from l n k) []
  empty_scan n k e = ap₂ (λ (p : Program) (subs : List Program). scan p (blocks_from l n k) subs) e.main e.subs

  pub found_plain :
      (t : Programs) → begins_with 79 (text_from (drop at l)) ≡ false → Empty (record { number = 0; block = 2; byte = at }) t
      → scan t.main (blocks_from l 2 at) (subs_of t) ≡ programs_from (block_from 1 0 l) (blocks_from l 2 (0 + length_from l))
  found_plain t e f =
      empty_scan 2 at f ∙ ap (λ (k : ℕ). scan (record { number = 0; block = 2; byte = k }) (blocks_from l 2 at) []) second
      ∙ sym (programs_plain l at (block_from 1 0 l) e) ∙ from_second

  module _ (e : begins_with 79 (text_from (drop at l)) ≡ true) where
    pub found_bad :
        number_after_o (text_from (drop (at + 1) l)) ≡ None
        → refused_at BadParameter (record { block = 2; byte = at }) ≡ programs_from (block_from 1 0 l) (blocks_from l 2 (0 + length_from l))
    found_bad f = sym (programs_bad l at (block_from 1 0 l) e f) ∙ from_second

    pub found_number :
        (n next : ℕ) (t : Programs) → number_after_o (text_from (drop (at + 1) l)) ≡ Some n → next ≡ at + length_from (drop at l)
        → Empty (record { number = n; block = 3; byte = next }) t
        → scan t.main (blocks_from l 3 next) (subs_of t) ≡ programs_from (block_from 1 0 l) (blocks_from l 2 (0 + length_from l))
    found_number n next t f g d =
        empty_scan 3 next d ∙ ap (λ (k : ℕ). scan (record { number = n; block = 3; byte = k }) (blocks_from l 3 k) []) g
        ∙ sym (programs_number l at (block_from 1 0 l) e n f) ∙ from_second
