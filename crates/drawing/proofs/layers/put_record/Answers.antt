-- `drawing::layers::put_record` meets its contract: a cut as such, and of all else the rapid.
use Rattle.terms.proofs.Common.{[], ◌≡◌, refl, ◌∷◌}
use denote.Enum.Declared.{tag_of}
use types.Run.{OneOf, miss}
use Rattle.lengths.specs.declared.Point.{Point}
use Rattle.records.{specs.declared.Record.Record, specs.contracts.Record.the_type}
use Rattle.records.specs.declared.Record.TheVariants.{RP, LN, AR, AL, DW, SP, SO, PA, EN}
use Rattle.svg.{specs.declared.View.View, proofs.Filled.fills_none}
use Rattle.drawing.specs.Shapes.{as_rapid, drawn}
use borrow.Enum.Refused.{opened}
use Rattle.drawing.proofs.layers.put_record.Goals as goal

-- the marks that have no arm of their own
others : (view : View) (from : Point) (r : Record) → OneOf (1 ∷ 2 ∷ 3 ∷ 4 ∷ 5 ∷ 6 ∷ 7 ∷ 8 ∷ []) (tag_of the_type r) → as_rapid view from r ≡ []
unfolding as_rapid
others view from (RP p) h = absurd (miss (1 ∷ 2 ∷ 3 ∷ 4 ∷ 5 ∷ 6 ∷ 7 ∷ 8 ∷ []) 0 tt h)
others view from (LN p feed) h = refl
others view from (AR a) h = refl
others view from (AL a) h = refl
others view from (DW ms) h = refl
others view from (SP speed) h = refl
others view from SO h = refl
others view from PA h = refl
others view from EN h = refl

pub returns-then-not-rapids : goal.returns-then-not-rapids
unfolding drawn
returns-then-not-rapids c = rw c.if-not-rapids.true c.put_as_cut.ensures

pub returns-in-RP : goal.returns-in-RP
unfolding drawn as_rapid
returns-in-RP c = rw (c.if-not-rapids.false, c.in-RP.is) c.put_line.ensures

pub returns-in_default : goal.returns-in_default
unfolding drawn
returns-in_default c =
    let x = c.args in
    rw (c.if-not-rapids.false, others x.view x.from x.r (opened c.in_default.in_default-own.keys2)) (fills_none x.out.now x.at)
