-- `drawing::layers::put_as_cut` meets its contract: mark by mark.
use Rattle.terms.proofs.Common.{[], ◌≡◌, refl, ◌∷◌}
use denote.Enum.Declared.{tag_of}
use types.Run.{OneOf, miss}
use Rattle.lengths.specs.declared.Point.{Point}
use Rattle.records.{specs.declared.Record.Record, specs.contracts.Record.the_type}
use Rattle.records.specs.declared.Record.TheVariants.{RP, LN, AR, AL, DW, SP, SO, PA, EN}
use Rattle.svg.{specs.declared.View.View, proofs.Filled.fills_none}
use Rattle.drawing.specs.Shapes.{as_cut}
use borrow.Enum.Refused.{opened}
use Rattle.drawing.proofs.layers.put_as_cut.Goals as goal

-- the marks that have no arm of their own
others : (view : View) (from : Point) (r : Record) → OneOf (0 ∷ 4 ∷ 5 ∷ 6 ∷ 7 ∷ 8 ∷ []) (tag_of the_type r) → as_cut view from r ≡ []
unfolding as_cut
others view from (RP p) h = refl
others view from (LN p feed) h = absurd (miss (0 ∷ 4 ∷ 5 ∷ 6 ∷ 7 ∷ 8 ∷ []) 1 tt h)
others view from (AR a) h = absurd (miss (0 ∷ 4 ∷ 5 ∷ 6 ∷ 7 ∷ 8 ∷ []) 2 tt h)
others view from (AL a) h = absurd (miss (0 ∷ 4 ∷ 5 ∷ 6 ∷ 7 ∷ 8 ∷ []) 3 tt h)
others view from (DW ms) h = refl
others view from (SP speed) h = refl
others view from SO h = refl
others view from PA h = refl
others view from EN h = refl

pub returns-in-LN : goal.returns-in-LN
unfolding as_cut
returns-in-LN c = rw c.in-LN.is c.put_cut.ensures

pub returns-in-AR : goal.returns-in-AR
unfolding as_cut
returns-in-AR c = rw c.in-AR.is c.put_arc.ensures

pub returns-in-AL : goal.returns-in-AL
unfolding as_cut
returns-in-AL c = rw c.in-AL.is c.put_arc-in-AL.ensures

pub returns-in_default : goal.returns-in_default
returns-in_default c =
    let x = c.args in
    rw (others x.view x.from x.r (opened c.in_default.in_default-own.keys4)) (fills_none x.out.now x.at)
