-- `letters::judgement::judge` meets its contract. The invariant: what is left gives the judgement of all.
use Rattle.terms.proofs.Common.{◌≡◌, sym, ◌∙◌, arith, get_or}
use Rattle.words.{specs.Packed.words_in, proofs.Packed.word_at}
use Rattle.letters.proofs.{Judging.judge_unused}
use Rattle.letters.proofs.Places.{so_far, kept_first, past_bad, past_fit, ended_bad, ended_fine}
use Rattle.letters.proofs.judgement.judge.Goals as goal

pub loop-i-init : goal.loop-i-init
loop-i-init c =
    let a = c.args in
    kept_first a.speeds a.m a.code a.centred (words_in a.words.now a.places.now) a.count c.requires.there

pub returns-then-is_unused : goal.returns-then-is_unused
returns-then-is_unused c =
    let is : let a = c.args in
    get_or (words_in a.words.now a.places.now) c.loop-i.i c.unpack-w.result ≡ c.unpack-w.result = word_at c.args.words.now c.args.places.now c.loop-i.i c.unpack-w.result
    (omega (arith, c.loop-i-test.true, c.requires.there)) ∙ sym c.unpack-w.ensures in
    let k = c.loop-i in
    let a = c.args in
    judge_unused a.speeds a.m a.code a.centred (words_in a.words.now a.places.now) a.count (so_far k.bad k.v) k.i c.unpack-w.result is
    k.invariant.few
    c.loop-i-test.true
    k.invariant.left
    c.use_of-meaning.result
    c.is_unused.result
    c.use_of-meaning.ensures
    c.is_unused.ensures
    c.if-is_unused.true

pub value_of-value-requires : goal.value_of-value-requires
value_of-value-requires c =
    let is : let a = c.args in
    get_or (words_in a.words.now a.places.now) c.loop-i.i c.unpack-w.result ≡ c.unpack-w.result = word_at c.args.words.now c.args.places.now c.loop-i.i c.unpack-w.result
    (omega (arith, c.loop-i-test.true, c.requires.there)) ∙ sym c.unpack-w.ensures in
    rw is at (c.requires.written c.loop-i.i c.unpack-w.result c.loop-i-test.true)

pub loop-i-preserved-in_default : goal.loop-i-preserved-in_default
loop-i-preserved-in_default c =
    let is : let a = c.args in
    get_or (words_in a.words.now a.places.now) c.loop-i.i c.unpack-w.result ≡ c.unpack-w.result = word_at c.args.words.now c.args.places.now c.loop-i.i c.unpack-w.result
    (omega (arith, c.loop-i-test.true, c.requires.there)) ∙ sym c.unpack-w.ensures in
    let k = c.loop-i in
    let a = c.args in
    rw c.or-bad.ensures (
    past_bad a.speeds a.m a.code a.centred (words_in a.words.now a.places.now) a.count k.v k.bad k.i k.invariant c.unpack-w.result is
    c.loop-i-test.true
    c.use_of-meaning.result
    c.is_unused.result
    c.use_of-meaning.ensures
    c.is_unused.ensures
    c.if-is_unused.false
    c.value_of-value.result
    c.value_of-value.ensures
    c.in_default.is)

pub bounds-v-k : goal.bounds-v-k
bounds-v-k c = c.value_place-k.ensures.inside

pub loop-i-preserved : goal.loop-i-preserved
loop-i-preserved c =
    let is : let a = c.args in
    get_or (words_in a.words.now a.places.now) c.loop-i.i c.unpack-w.result ≡ c.unpack-w.result = word_at c.args.words.now c.args.places.now c.loop-i.i c.unpack-w.result
    (omega (arith, c.loop-i-test.true, c.requires.there)) ∙ sym c.unpack-w.ensures in
    let k = c.loop-i in
    let a = c.args in
    past_fit a.speeds a.m a.code a.centred (words_in a.words.now a.places.now) a.count k.v k.bad k.i k.invariant c.unpack-w.result is
    c.loop-i-test.true
    c.use_of-meaning.result
    c.is_unused.result
    c.use_of-meaning.ensures
    c.is_unused.ensures
    c.if-is_unused.false
    c.value_of-value.result
    c.value_of-value.ensures
    c.in-Some.z
    c.value_place-k.result
    c.in-Some.is
    c.value_place-k.ensures

pub returns-in-Some-bad : goal.returns-in-Some-bad
returns-in-Some-bad c =
    let k = c.loop-i in
    let a = c.args in
    ended_bad a.speeds a.m a.code a.centred (words_in a.words.now a.places.now) a.count k.v k.bad k.i k.invariant c.in-Some-bad.place c.loop-i-test.false
    c.in-Some-bad.is

pub returns-in-None : goal.returns-in-None
returns-in-None c =
    let k = c.loop-i in
    let a = c.args in
    ended_fine a.speeds a.m a.code a.centred (words_in a.words.now a.places.now) a.count k.v k.bad k.i k.invariant c.loop-i-test.false
    c.in-None.is
    c.values_in.result
    c.values_in.ensures
