use Rattle.words.{specs.Packed.words_in}
use Rattle.letters.proofs.Places.{KeptValues}
use Rattle.letters.proofs.judgement.judge.Given as goal

abbrev pub invariant-loop-i : goal.invariant-loop-i
invariant-loop-i l =
    KeptValues l.speeds l.m l.code l.centred (words_in l.words l.places) l.count l.v l.bad l.i
