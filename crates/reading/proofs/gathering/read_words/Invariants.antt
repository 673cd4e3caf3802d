use Rattle.terms.proofs.Common.{◌-◌, length}
use Rattle.words.{specs.Packed.words_in}
use Rattle.reading.proofs.Wording.{Along}
use Rattle.reading.proofs.gathering.read_words.Given as goal

abbrev pub invariant-loop-i : goal.invariant-loop-i
invariant-loop-i l =
    Along l.main l.initial.modes l.s l.from l.i l.refused (record { letters = l.letters; groups = l.groups; misc = l.misc; modes = l.modes }) l.count (words_in l.words l.places)

abbrev pub decreases-loop-i : goal.decreases-loop-i
decreases-loop-i l =
    length l.s - l.i
