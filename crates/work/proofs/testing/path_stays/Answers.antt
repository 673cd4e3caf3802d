-- `work::testing::path_stays` meets its contract, mark by mark.
use Rattle.terms.proofs.Common.{◌≡◌, refl, true, inl, inr}
use Rattle.records.{specs.declared.Record.Record, specs.Path.path_of, proofs.Still.still_ones}
use Rattle.arcs.specs.Arcs.{path_stays}
use borrow.Enum.Refused.{opened}
use Rattle.work.proofs.testing.path_stays.Goals as goal

pub right_arc_stays-requires : goal.right_arc_stays-requires
unfolding path_of
right_arc_stays-requires c = rw c.in-AR.is at c.requires

pub left_arc_stays-requires : goal.left_arc_stays-requires
unfolding path_of
left_arc_stays-requires c = rw c.in-AL.is at c.requires

pub returns-in-RP : goal.returns-in-RP
unfolding path_stays path_of
returns-in-RP c = elim c.in-RP.is [ inl e ↦ rw e c.is_inside.ensures | inr e ↦ rw e.1 c.is_inside.ensures ]

pub returns-in-AR : goal.returns-in-AR
unfolding path_stays path_of
returns-in-AR c = rw c.in-AR.is c.right_arc_stays.ensures

pub returns-in-AL : goal.returns-in-AL
unfolding path_stays path_of
returns-in-AL c = rw c.in-AL.is c.left_arc_stays.ensures

pub returns-in_default : goal.returns-in_default
unfolding path_stays path_of
returns-in_default c = still_ones (λ (r : Record). true ≡ path_stays c.args.t c.args.from (path_of r)) c.args.r (opened c.in_default.in_default-own.keys5) (λ ms. refl) (λ speed. refl) refl refl refl
