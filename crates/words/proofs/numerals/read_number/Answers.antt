-- `words::numerals::read_number` meets its contract: the sign, and then the figures.
use Rattle.std.proofs.lemmas.List.{take_rest}
use Rattle.terms.proofs.Common.{[], ◌∷◌, ◌∙◌, ap, arith}
use Rattle.words.specs.Numbers.{sign_of, sign_length}
use Rattle.words.proofs.{Numbers.sign_most, Figures.no_byte, Figures.by_sign}
use Rattle.words.proofs.numerals.read_number.Goals as goal

pub returns-in_err-first : goal.returns-in_err-first
returns-in_err-first c = rw c.from_residual.ensures (no_byte c.args.bytes.now c.in_err-first.ensures.item.3)

pub slice_bounds-read_figures-count : goal.slice_bounds-read_figures-count
slice_bounds-read_figures-count c = let first = c.in_ok-first.ensures.item.3 in omega (arith, first.0, sign_most c.sign_of-sign.result, c.sign_length.ensures)

pub slice_bounds-read_figures-start : goal.slice_bounds-read_figures-start
slice_bounds-read_figures-start c = let first = c.in_ok-first.ensures.item.3 in omega (arith, first.0, sign_most c.sign_of-sign.result, c.sign_length.ensures)

pub returns : goal.returns
returns c =
    let first = c.in_ok-first.ensures.item.3 in
    let sign = c.sign_of-sign.ensures ∙ ap (λ b. sign_of (b ∷ [])) (first.1 0) in
    c.read_figures.ensures
    ∙ rw (c.sign_length.ensures, take_rest c.args.bytes.now (sign_length c.sign_of-sign.result)) (by_sign c.args.bytes.now c.sign_of-sign.result first.0 sign)
