-- An arc that is drawn: its quarters and its extremes one by one. Assumes nothing.
use Rattle.terms.proofs.Common.{ℕ, zero, suc, ◌+◌, ◌-◌, ◌≤◌, ◌<◌, ◌≡◌, true, false, List, arith}
use Rattle.terms.specs.Terms.{bytes}
use Rattle.lengths.specs.declared.Flat.{Flat}
use Rattle.svg.specs.{Text.Fills, Text.filled, Turns.quarter_on, Turns.soon, declared.SeenArc.SeenArc}
use Rattle.svg.specs.ArcText.{piece, seen_on, quarters, passes, extreme, extremes}
use Rattle.svg.proofs.Filled.{fills_then, fills_none}

module _ (s : SeenArc) (d : Flat) where
  pub quarters_soon : (out : List ℕ) (next n : ℕ) → soon s.turn d s.end ≡ true → Fills out next (quarters s n d) out next
  unfolding quarters
  quarters_soon out next zero e = fills_none out next
  quarters_soon out next (suc n) e = rw e (fills_none out next)

  pub quarters_done : (out : List ℕ) (next n : ℕ) → n ≤ 0 → Fills out next (quarters s n d) out next
  unfolding quarters
  quarters_done out next zero h = fills_none out next
  quarters_done out next (suc n) h = absurd (omega arith)

  -- after i of m quarters, one more
  pub quarters_on :
      {out mid is : List ℕ} {next k last : ℕ} (m i : ℕ) → i < m → soon s.turn d s.end ≡ false
      → Fills out next (piece s (seen_on s (quarter_on s.turn d))) mid k
      → Fills mid k (quarters s (m - (i + 1)) (quarter_on s.turn d)) is last
      → Fills out next (quarters s (m - i) d) is last
  unfolding quarters
  quarters_on m i h e p q =
      let n : m - i ≡ suc (m - (i + 1)) = omega arith in
      rw (n, e) (fills_then p q)

  pub extreme_not : (out : List ℕ) (next : ℕ) → passes s d ≡ false → Fills out next (extreme s d) out next
  unfolding extreme
  extreme_not out next e = rw e (fills_none out next)

  pub extreme_is :
      {out mid : List ℕ} {next k : ℕ} → passes s d ≡ true → Fills out next (filled (bytes "L_ _") (seen_on s d) (seen_on s d)) mid k
      → Fills out next (extreme s d) mid k
  unfolding extreme
  extreme_is e p = rw e p

  pub extremes_done : (out : List ℕ) (next n : ℕ) → n ≤ 0 → Fills out next (extremes s n d) out next
  unfolding extremes
  extremes_done out next zero h = fills_none out next
  extremes_done out next (suc n) h = absurd (omega arith)

  -- after i of m extremes, one more
  pub extremes_on :
      {out mid is : List ℕ} {next k last : ℕ} (m i : ℕ) → i < m
      → Fills out next (extreme s d) mid k
      → Fills mid k (extremes s (m - (i + 1)) (quarter_on true d)) is last
      → Fills out next (extremes s (m - i) d) is last
  unfolding extremes
  extremes_on m i h p q =
      let n : m - i ≡ suc (m - (i + 1)) = omega arith in
      rw n (fills_then p q)
