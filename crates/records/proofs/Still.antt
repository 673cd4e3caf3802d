-- The records that move nothing, in one go. Assumes nothing.
use Rattle.terms.proofs.Common.{[], ◌∷◌}
use denote.Enum.Declared.{tag_of}
use types.Run.{OneOf, miss}
use Rattle.lengths.specs.declared.Len.{Len}
use Rattle.records.specs.declared.Record.{Record}
use Rattle.records.specs.declared.Record.TheVariants.{RP, LN, AR, AL, DW, SP, SO, PA, EN}
use Rattle.records.specs.contracts.Record.{the_type}

-- what holds of each of them holds where a match has no arm for them
pub still_ones :
    (P : Record → Type 0) (r : Record) → OneOf (4 ∷ 5 ∷ 6 ∷ 7 ∷ 8 ∷ []) (tag_of the_type r)
    → ((ms : Len) → P (DW ms)) → ((speed : Len) → P (SP speed)) → P SO → P PA → P EN → P r
still_ones P (RP p) h dw sp so pa en = absurd (miss (4 ∷ 5 ∷ 6 ∷ 7 ∷ 8 ∷ []) 0 tt h)
still_ones P (LN p feed) h dw sp so pa en = absurd (miss (4 ∷ 5 ∷ 6 ∷ 7 ∷ 8 ∷ []) 1 tt h)
still_ones P (AR a) h dw sp so pa en = absurd (miss (4 ∷ 5 ∷ 6 ∷ 7 ∷ 8 ∷ []) 2 tt h)
still_ones P (AL a) h dw sp so pa en = absurd (miss (4 ∷ 5 ∷ 6 ∷ 7 ∷ 8 ∷ []) 3 tt h)
still_ones P (DW ms) h dw sp so pa en = dw ms
still_ones P (SP speed) h dw sp so pa en = sp speed
still_ones P SO h dw sp so pa en = so
still_ones P PA h dw sp so pa en = pa
still_ones P EN h dw sp so pa en = en
