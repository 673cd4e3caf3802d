-- `cases::case_text::is_line_end` meets its contract: the byte at the place, where there is one.
use Rattle.terms.proofs.Common.{ℕ, ◌<◌, ◌≤◌, ◌≡◌, List, Option, None, Some, length, drop, get_or, eqb, ltb, sym, ◌∙◌, arith, ltb-true, ltb-false}
use Rattle.std.specs.Prelude.{is_some, unwrap_or, option_map}
use Rattle.std.specs.Option.{option_eq}
use Rattle.lines.specs.Blocks.{begins_with}
use Rattle.lines.proofs.Lines.{begins_end, begins_at}
use denote.Bor.{Bor}
use Rattle.cases.proofs.case_text.is_line_end.Goals as goal

got :
    (found : Option (Bor ℕ)) (y : Bor ℕ) (l : List ℕ) (at : ℕ)
    → is_some found ≡ ltb at (length l) → unwrap_or (option_map (λ (x : Bor ℕ). x.now) found) 0 ≡ get_or l at 0
    → option_eq (λ (x z : Bor ℕ). eqb x.now z.now) found (Some y) ≡ begins_with y.now (drop at l)
got None y l at s e = let h : length l ≤ at = ltb-false at (length l) (sym s) in sym (begins_end y.now l at h)
got (Some x) y l at s e = let h : at < length l = ltb-true at (length l) (sym s) in rw e (sym (begins_at y.now l at h))

pub returns : goal.returns
returns c =
    let a = c.args in
    c.eq.ensures ∙ got c.get.result _ a.input.now a.at c.get.ensures.lookup.0 (c.get.ensures.lookup.4 (omega arith) 0)
