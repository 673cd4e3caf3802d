-- `records::loading::plane_for` meets its contract: by whether the kind has a plane byte.
use Rattle.terms.proofs.Common.{◌∙◌}
use Rattle.records.{specs.Reading.plane_for, proofs.Found.plane_found}
use Rattle.records.proofs.loading.plane_for.Goals as goal

pub returns-then-has_plane : goal.returns-then-has_plane
unfolding plane_for
returns-then-has_plane c = rw (← c.if-has_plane.ensures) (c.ok.ensures.value ∙ plane_found _ _ _ c.try_from.ensures)

pub returns-else-has_plane : goal.returns-else-has_plane
unfolding plane_for
returns-else-has_plane c = rw (← c.if-has_plane.ensures)
