-- `execution::block_reading::read_block` meets its contract: refused as it is read, or judged.
use Rattle.std.proofs.lemmas.Result.{err_from_is_err_and}
use Rattle.terms.proofs.Common.{eqb}
use Rattle.words.specs.{Packed.words_in}
use Rattle.reading.specs.{Items.words_at, Whole.AllStand}
use Rattle.execution.proofs.{Found.Reads, Found.all_stand, Found.reading_refused, Found.block_read_as}
use Rattle.execution.proofs.block_reading.read_block.Goals as goal

pub judge_words-requires : goal.judge_words-requires
judge_words-requires c =
    let fine : let a = c.args in AllStand (eqb a.left 4) a.state.modes a.s.now a.from (words_in c.read_words.new.words c.read_words.new.places) c.in_ok-read.read = rw c.in_ok-read.was at c.read_words.ensures in
    let words : let a = c.args in Reads (words_at a.s.now a.from) = let a = c.args in all_stand (eqb a.left 4) (words_at a.s.now a.from) fine.status in
    (fine.kept words.ws words.are).stored

pub returns-in_err-read : goal.returns-in_err-read
returns-in_err-read c =
    let a = c.args in
    let p = err_from_is_err_and c.from_residual.result c.from_residual.ensures.1 in
    let was = rw c.in_err-read.was at c.read_words.ensures in
    rw (p.1, p.2) (reading_refused a.bed a.left a.state a.s.now a.from c.in_err-read.field-0.0 was)

pub returns : goal.returns
returns c =
    let a = c.args in
    let fine : AllStand (eqb a.left 4) a.state.modes a.s.now a.from (words_in c.read_words.new.words c.read_words.new.places) c.in_ok-read.read = rw c.in_ok-read.was at c.read_words.ensures in
    let words : Reads (words_at a.s.now a.from) = all_stand (eqb a.left 4) (words_at a.s.now a.from) fine.status in
    block_read_as a.bed a.left a.state a.s.now a.from words.ws words.are fine.status (fine.kept words.ws words.are) c.requires.fair c.requires.reachable
    c.judge_words.result c.judge_words.ensures
