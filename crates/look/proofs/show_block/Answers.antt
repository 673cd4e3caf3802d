-- `look::show_block` meets its contract: the words of a block that is read as fine can be judged.
use Rattle.terms.proofs.Common.{true}
use Rattle.words.specs.Packed.{words_in}
use Rattle.reading.specs.Whole.{AllStand}
use Rattle.look.proofs.{Fine.read_stored}
use Rattle.look.proofs.show_block.Goals as goal

pub judged-requires : goal.judged-requires
judged-requires g c =
    let a = c.args in
    let l = c.read_words.new in
    let stand : AllStand true a.modes a.s.now c.after_slash-from.result (words_in l.words l.places) c.in-Ok.read = rw c.in-Ok.is at c.read_words.ensures in
    read_stored true a.modes a.s.now c.after_slash-from.result (words_in l.words l.places) c.in-Ok.read stand
