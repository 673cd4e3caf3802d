-- Blocks that differ only in the bytes of comments: for the proof that these change nothing.
use Rattle.std.specs.Prelude.{◌≡◌, ◌∷◌}
use Rattle.terms.specs.Common.{ℕ, Bool, true, false, List, []}
use Rattle.terms.specs.Terms.{byte}
use Rattle.lines.specs.Blocks.{no_text, Block}

-- Two lists of bytes, a block's text or the whole data, that differ only inside comments. The test says whether a comment is
-- open where they begin.
pub data Alike : Bool → List ℕ → List ℕ → Type 0 where
  -- both are at their end, a comment being open or not
  nothing : {open' : Bool} → Alike open' [] []
  -- outside a comment the bytes are the same
  outside : {b : ℕ} {s t : List ℕ} → (b ≡ byte "(" → ⊥) → Alike false s t → Alike false (b ∷ s) (b ∷ t)
  -- "`(` to `)` in one block is a comment": it begins in both
  begins : {s t : List ℕ} → Alike true s t → Alike false (byte "(" ∷ s) (byte "(" ∷ t)
  -- inside it any two bytes, of which none is `)` and none ends its block's text: LF, or a CR just before it
  inside :
      {a b : ℕ} {s t : List ℕ} → (a ≡ byte ")" → ⊥) → (b ≡ byte ")" → ⊥) → no_text (a ∷ s) ≡ false → no_text (b ∷ t) ≡ false
      → Alike true s t → Alike true (a ∷ s) (b ∷ t)
  -- it ends in both
  finishes : {s t : List ℕ} → Alike false s t → Alike true (byte ")" ∷ s) (byte ")" ∷ t)
  -- its block's text ends with it unclosed, in both by the same byte: no comment reaches into the next block
  breaks : {b : ℕ} {s t : List ℕ} → no_text (b ∷ s) ≡ true → Alike false s t → Alike true (b ∷ s) (b ∷ t)

-- two blocks at one place, with texts that differ only inside comments
pub record AlikeBlock (a b : Block) : Type 0 where
  pub number : a.number ≡ b.number
  pub start : a.start ≡ b.start
  pub text : Alike false a.text b.text
  pub next : a.next ≡ b.next

-- the same of as many blocks, one by one
pub data AlikeBlocks : List Block → List Block → Type 0 where
  none : AlikeBlocks [] []
  more : {a b : Block} {as' bs : List Block} → AlikeBlock a b → AlikeBlocks as' bs → AlikeBlocks (a ∷ as') (b ∷ bs)
