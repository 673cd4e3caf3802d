-- `lengths::Len::bytes` meets its contract: the key ends in the word of the number.
use Rattle.terms.proofs.Common.{ap}
use Rattle.lengths.specs.Units.{four_of}
use Rattle.lengths.proofs.{Four.word_key}
use Rattle.lengths.proofs.Len.bytes.Goals as goal

pub returns : goal.returns
returns c = ap four_of (word_key c.args.self.v c.key-w.result c.requires c.key-w.ensures)
