-- `work::testing::record_fits` meets its contract: only an arc has a centre.
use Rattle.terms.proofs.Common.{[], ◌≡◌, refl, sym, true, ◌∷◌, inl, inr}
use denote.Enum.Declared.{tag_of}
use types.Run.{OneOf, miss}
use Rattle.lengths.specs.declared.Point.{Point}
use Rattle.records.{specs.declared.Record.Record, specs.Path.path_of, specs.Path.record_moved, specs.contracts.Record.the_type}
use Rattle.records.specs.declared.Record.TheVariants.{RP, LN, AR, AL, DW, SP, SO, PA, EN}
use Rattle.arcs.specs.Arcs.{centre_fits}
use borrow.Enum.Refused.{opened}
use Rattle.work.proofs.testing.record_fits.Goals as goal

-- the marks that have no arm of their own
others : (by : Point) (r : Record) → OneOf (0 ∷ 1 ∷ 4 ∷ 5 ∷ 6 ∷ 7 ∷ 8 ∷ []) (tag_of the_type r) → centre_fits (path_of (record_moved by r)) ≡ true
unfolding centre_fits path_of record_moved
others by (RP p) h = refl
others by (LN p feed) h = refl
others by (AR a) h = absurd (miss (0 ∷ 1 ∷ 4 ∷ 5 ∷ 6 ∷ 7 ∷ 8 ∷ []) 2 tt h)
others by (AL a) h = absurd (miss (0 ∷ 1 ∷ 4 ∷ 5 ∷ 6 ∷ 7 ∷ 8 ∷ []) 3 tt h)
others by (DW ms) h = refl
others by (SP speed) h = refl
others by SO h = refl
others by PA h = refl
others by EN h = refl

pub centre_fits-requires : goal.centre_fits-requires
unfolding path_of
centre_fits-requires c = (c.requires.0, elim c.in-AR.is [ inl e ↦ rw e at c.requires.1 | inr e ↦ rw e at c.requires.1 ])

pub returns-in-AR : goal.returns-in-AR
unfolding centre_fits path_of record_moved
returns-in-AR c = elim c.in-AR.is [ inl e ↦ rw e c.centre_fits.ensures | inr e ↦ rw e c.centre_fits.ensures ]

pub returns-in_default : goal.returns-in_default
returns-in_default c = sym (others c.args.by c.args.r (opened c.in_default.in_default-own.keys3))
