-- The reader on small lists: the faults in document 01's order, and one last byte. Assumes nothing.
use Rattle.terms.proofs.Common.{◌≡◌, refl, [], ◌∷◌, ◌++◌, negsuc, replicate}
use Rattle.terms.specs.Terms.{bytes}
use Rattle.lengths.specs.Units.{len}
use Rattle.records.specs.declared.{Record.TheVariants.DW, Record.TheVariants.SO, Fault.TheVariants.UnknownMark, Fault.TheVariants.CutShort, Fault.TheVariants.OtherPlane}
use Rattle.records.specs.{declared.Listed.TheVariants.Next, declared.Listed.TheVariants.End, declared.Listed.TheVariants.Faulty, Reading.read_at}
use Rattle.records.proofs.Opened.{opened}

pub whole_record : read_at (bytes "SO?") 0 ≡ Next SO 2
unfolding opened
whole_record = refl

pub one_last_byte : read_at (bytes "SO?") 2 ≡ Faulty CutShort 2
unfolding opened
one_last_byte = refl

pub at_the_end : read_at (bytes "SO") 2 ≡ End
unfolding opened
at_the_end = refl

pub past_the_end : read_at (bytes "SO") 18446744073709551615 ≡ Faulty CutShort 18446744073709551615
unfolding opened
past_the_end = refl

pub unknown_mark : read_at (bytes "SQ") 0 ≡ Faulty UnknownMark 0
unfolding opened
unknown_mark = refl

pub short_before_plane : read_at (bytes "AR" ++ 20 ∷ []) 0 ≡ Faulty CutShort 0
unfolding opened
short_before_plane = refl

pub plane_20 : read_at (bytes "AL" ++ 20 ∷ replicate 24 0) 0 ≡ Faulty OtherPlane 0
unfolding opened
plane_20 = refl

pub minus_one : read_at (bytes "DW" ++ 255 ∷ 255 ∷ 255 ∷ 255 ∷ []) 0 ≡ Next (DW (len (negsuc 0))) 6
unfolding opened
minus_one = refl
