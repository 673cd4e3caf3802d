-- Every program of the table begins at a place of the data, and its blocks are those from that place on. Assumes nothing.
use Rattle.std.specs.Prelude.{Result, Ok, Err, if◌then◌else◌}
use Rattle.terms.proofs.Common.{ℕ, ◌+◌, ◌-◌, ◌≤◌, ◌<◌, ◌≡◌, refl, sym, ◌∙◌, ap, Bool, true, false, Option, None, Some, List, [], ◌∷◌, ◌++◌, arith, dec_lt, eqb, length, drop, length-drop, drop-drop}
use Rattle.terms.specs.Terms.{first}
use Rattle.lines.specs.Blocks.{length_from, Block, block_from, blocks_of, closes, opens}
use Rattle.lines.{specs.Serving.blocks_from, proofs.Lines.blocks_step, proofs.Lines.blocks_end, proofs.Lines.length_some}
use Rattle.programs.specs.declared.Program.{Program}
use Rattle.refusals.specs.declared.Refusal.{Refusal}
use Rattle.programs.specs.Openings.{Table, table, opening_of, program_after, entry_of, entered, scan_block, scan, main_as, programs_from, known}
use Rattle.programs.specs.Places.{Begins, Placed, Places, none, more, TablePlaced, found, refused}
use Rattle.programs.proofs.Scanning.{next_inside}

-- ---- where blocks begin

pub begins_first : (l : List ℕ) → Begins l 1 0
unfolding blocks_of
begins_first l = record { inside = omega arith; counted = omega arith; few = omega arith; last = omega arith; blocks = refl }

-- the block after one that begins at a place
pub begins_next : {l : List ℕ} {n at : ℕ} → Begins l n at → at < length l → Begins l (n + 1) (at + length_from (drop at l))
begins_next {l} {n} {at} b h =
    record {
      inside = next_inside l at b.inside;
      counted = omega arith;
      few = omega (arith, b.few, length_some l at h);
      last =
          omega (arith, b.counted, length-drop (n - 1) (blocks_of l), ap length (b.blocks ∙ blocks_step l n at h));
      blocks =
          let e : n - 1 + 1 ≡ n + 1 - 1 = omega (arith, b.counted) in
          rw (← e, ← drop-drop 1 (n - 1) (blocks_of l)) (rw (b.blocks, blocks_step l n at h));
    }

-- `bs` are the blocks from a place on, where the block n begins
record From (l : List ℕ) (n at : ℕ) (bs : List Block) : Type 0 where
  begins : Begins l n at
  is : blocks_from l n at ≡ bs

module _ {l : List ℕ} {n at : ℕ} {b : Block} {bs : List Block} (f : From l n at (b ∷ bs)) where
  -- a block that is there begins inside the data
  inside : at < length l
  inside =
      elim (dec_lt at (length l)) [
        | yes h ↦ h
        | no k ↦
            let past : length l ≤ at = omega (arith, k) in
            let e : ◌≡◌ {A = List Block} [] (b ∷ bs) = sym (blocks_end l n at past) ∙ f.is in
            let never : ◌≡◌ {A = ℕ} 0 1 = cc in
            absurd (omega arith)
      ]

  step : b ∷ bs ≡ block_from n at (drop at l) ∷ blocks_from l (n + 1) (at + length_from (drop at l))
  step = sym f.is ∙ blocks_step l n at inside

  this : b ≡ block_from n at (drop at l)
  this = let e = step in cc

  next : From l (n + 1) (at + length_from (drop at l)) bs
  next = record { begins = begins_next f.begins inside; is = let e = step in cc }

  -- a program that begins after the block
  after : (m : ℕ) → Placed l (program_after m b)
  after m = rw this (record { begins = next.begins })

start : (l : List ℕ) (bs : List Block) → blocks_of l ≡ bs → From l 1 0 bs
unfolding blocks_of
start l bs e = record { begins = begins_first l; is = e }

one_more : {l : List ℕ} {p : Program} {ps : List Program} → Places l ps → Placed l p → Places l (ps ++ p ∷ [])
one_more none q = more q none
one_more (more p ps) q = more p (one_more ps q)

-- one block, where the rest of the table is placed
module _ {l : List ℕ} {main : Program} (b : Block) (rest : List Program → Table) (m : Placed l main) (here : (k : ℕ) → Placed l (program_after k b)) (on : (subs : List Program) → Places l subs → TablePlaced l (rest subs)) where
  entered_placed : {subs : List Program} (e : Result ℕ Refusal) → Places l subs → TablePlaced l (entered e subs b rest)
  unfolding entered
  entered_placed (Err refusal) s = refused
  entered_placed {subs} (Ok k) s = on (subs ++ program_after k b ∷ []) (one_more s (here k))

  block_placed : {subs : List Program} (end opening : Bool) → Places l subs → TablePlaced l (scan_block end opening main subs b rest)
  unfolding scan_block
  block_placed true opening s = found m s
  block_placed {subs} false true s = entered_placed (entry_of main subs (opening_of b)) s
  block_placed {subs} false false s = on subs s

scan_placed :
    {l : List ℕ} {n at : ℕ} {main : Program} (bs : List Block) → From l n at bs → Placed l main → (subs : List Program) → Places l subs
    → TablePlaced l (scan main bs subs)
unfolding scan
scan_placed [] f m subs s = found m s
scan_placed {l = l} {n = n} {at = at} {main = main} (b ∷ bs) f m subs s =
    block_placed b (scan main bs) m (after f) (scan_placed {n = n + 1} bs (next f) m) (closes b) (opens b) s

-- what the openings of the data give
pub programs_placed : (l : List ℕ) (percent : Block) (bs : List Block) → blocks_of l ≡ percent ∷ bs → TablePlaced l (programs_from percent bs)
unfolding programs_from main_as
programs_placed l percent [] e = found (after (start l (percent ∷ []) e) 0) none
programs_placed l percent (b ∷ bs) e = go (opens b)
  where
    f : From l 1 0 (percent ∷ b ∷ bs)
    f = start l (percent ∷ b ∷ bs) e

    under : (o : Option ℕ) → TablePlaced l (main_as o b bs)
    under None = refused
    under (Some m) = scan_placed bs (next (next f)) (after (next f) m) [] none

    go : (opening : Bool) → TablePlaced l (if opening then main_as (opening_of b) b bs else scan (program_after 0 percent) (b ∷ bs) [])
    go true = under (opening_of b)
    go false = scan_placed (b ∷ bs) (next f) (after f 0) [] none

-- the same, as a search from the second block finds it, which begins at a place
pub found_placed : (l : List ℕ) → 0 < length l → TablePlaced l (programs_from (block_from 1 0 l) (blocks_from l 2 (0 + length_from l)))
unfolding blocks_of
found_placed l h = programs_placed l (block_from 1 0 l) (blocks_from l 2 (0 + length_from l)) (blocks_step l 1 0 h)

-- ---- the programs of a table

pub main_placed : {l : List ℕ} {main : Program} {subs : List Program} → TablePlaced l (table main subs) → Placed l main
main_placed (found m s) = m

pub subs_placed : {l : List ℕ} {main : Program} {subs : List Program} → TablePlaced l (table main subs) → Places l subs
subs_placed (found m s) = s

-- the subprogram of a number
pub known_placed : {l : List ℕ} {subs : List Program} {p : Program} (n : ℕ) → Places l subs → known subs n ≡ Some p → Placed l p
unfolding known first
known_placed n none e = let never : ◌≡◌ {A = ℕ} 0 1 = cc in absurd (omega arith)
known_placed {l} {p = p} n (more {p = q} {ps = qs} m s) e = go (eqb q.number n) (known_placed n s) e
  where
    go : (t : Bool) → (first (λ r. eqb r.number n) qs ≡ Some p → Placed l p) → (if t then Some q else first (λ r. eqb r.number n) qs) ≡ Some p → Placed l p
    go true rest f = let g : q ≡ p = cc in rw g at m
    go false rest f = rest f

-- ---- what a caller of the code has
