-- `svg::arc_text::is_round` meets its contract: from each side one plane is seen round.
use Rattle.terms.proofs.Common.{◌≡◌, refl, false}
use Rattle.codes.specs.declared.Plane.{Plane, TheVariants.G17, TheVariants.G18, TheVariants.G19}
use Rattle.svg.specs.{ArcText.is_round, declared.View.TheVariants.Above, declared.View.TheVariants.Side}
use Rattle.svg.proofs.arc_text.is_round.Goals as goal

flat_above : (p : Plane) → (p ≡ G17 → ⊥) → false ≡ is_round Above p
unfolding is_round
flat_above G17 h = absurd (h refl)
flat_above G18 h = refl
flat_above G19 h = refl

flat_aside : (p : Plane) → (p ≡ G18 → ⊥) → false ≡ is_round Side p
unfolding is_round
flat_aside G17 h = refl
flat_aside G18 h = absurd (h refl)
flat_aside G19 h = refl

pub returns-in-Above-G17 : goal.returns-in-Above-G17
unfolding is_round
returns-in-Above-G17 c = rw (c.in-Above-G17.is-0, c.in-Above-G17.is-1)

pub returns-in-Above-G17-2 : goal.returns-in-Above-G17-2
unfolding is_round
returns-in-Above-G17-2 c = rw (c.in-Above-G17.is-0, c.in-Above-G17.is-1)

pub returns-in_default : goal.returns-in_default
returns-in_default c = rw c.in_default.is-0 (flat_above c.args.plane c.in_default.not-G17-1)

pub returns-in_default-2 : goal.returns-in_default-2
returns-in_default-2 c = rw c.in_default.is-0 (flat_aside c.args.plane c.in_default.not-G18-1)
