-- `arcs::staying::is_on_left_way` meets its contract, by the definition's three cases.
use Rattle.std.specs.Prelude.{if◌then◌else◌}
use Rattle.terms.proofs.Common.{◌≡◌, refl, sym, ◌∙◌, Bool, true, false, not, ◌||◌}
use Rattle.arcs.specs.Turning.{on_left_way}
use Rattle.arcs.proofs.staying.is_on_left_way.Goals as goal

or-if : (a b : Bool) → (a || b) ≡ (if a then true else b)
or-if true b = refl
or-if false b = refl

pub returns-then-is_left : goal.returns-then-is_left
unfolding on_left_way
returns-then-is_left c =
    let e = sym c.is_left.ensures ∙ c.if-is_left.true in
    rw (c.is_left-then-is_left.ensures, c.is_left-then-is_left-2.ensures, e)

pub returns-then-is_left-2 : goal.returns-then-is_left-2
unfolding on_left_way
returns-then-is_left-2 c =
    let e = sym c.is_left.ensures ∙ c.if-is_left.false in
    let f = sym c.is_left-2.ensures ∙ c.if-is_left-2.true in
    rw (c.is_left-then-is_left-2-2.ensures, c.is_left-then-is_left-2-3.ensures, e, f)

pub returns : goal.returns
unfolding on_left_way
returns c =
    let e = sym c.is_left.ensures ∙ c.if-is_left.false in
    let f = sym c.is_left-2.ensures ∙ c.if-is_left-2.false in
    or-if c.is_ahead.result (not c.is_left-3.result) ∙ rw (c.is_ahead.ensures, c.is_left-3.ensures, e, f)
