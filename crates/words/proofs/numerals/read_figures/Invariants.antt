use Rattle.words.specs.Numbers.{is_figure, run, number_by}
use Rattle.words.proofs.Figures.{Passed}
use Rattle.words.proofs.numerals.read_figures.Given as goal

abbrev pub invariant-loop-b : goal.invariant-loop-b
invariant-loop-b l = Passed (number_by l.sign (run is_figure l.bytes)) l.bytes l.sign l.b-index l.digits l.decimals l.count l.point
