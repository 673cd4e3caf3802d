-- `records::leading::path_end` meets its contract, mark by mark.
use Rattle.terms.proofs.Common.{◌≡◌, refl, inl, inr}
use Rattle.records.specs.{declared.Record.Record, Path.path_of, Path.path_end}
use Rattle.records.proofs.{Still.still_ones}
use borrow.Enum.Refused.{opened}
use Rattle.records.proofs.leading.path_end.Goals as goal

pub returns-in-RP : goal.returns-in-RP
unfolding path_of path_end
returns-in-RP c = elim c.in-RP.is [ inl e ↦ rw e | inr e ↦ rw e.1 ]

pub returns-in-RP-2 : goal.returns-in-RP-2
unfolding path_of path_end
returns-in-RP-2 c = elim c.in-RP.is [ inl e ↦ rw e | inr e ↦ rw e.1 ]

pub returns-in-AR : goal.returns-in-AR
unfolding path_of path_end
returns-in-AR c = elim c.in-AR.is [ inl e ↦ rw e | inr e ↦ rw e ]

pub returns-in_default : goal.returns-in_default
unfolding path_end path_of
returns-in_default c = still_ones (λ (r : Record). c.args.from ≡ path_end c.args.from (path_of r)) c.args.r (opened c.in_default.in_default-own.keys5) (λ ms. refl) (λ speed. refl) refl refl refl
