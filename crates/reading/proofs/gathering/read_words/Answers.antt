use Rattle.terms.proofs.Common.{ℕ, ◌<◌, sym, ◌∙◌, ap, subst, false, arith, lit<, get_or}
use Rattle.std.specs.Prelude.{Ok}
use Rattle.lines.{proofs.Laws.text_inside}
use Rattle.words.{proofs.Packed.words_length, proofs.Packed.word_put}
use Rattle.reading.specs.{Seen.Plays, declared.Role.Role}
use Rattle.reading.proofs.{Items.step_bad, Items.step_gap, Items.step_word, Letters.place_inside, Seeing.group_most}
use Rattle.reading.proofs.Wording.{begins, goes_on, stops, halts, none_of, some_is, gap_along, word_halted, end_fine, end_blamed, bad_along, letter_stood, over_code, over_misc, over_valued, room}
use Rattle.reading.proofs.gathering.read_words.Goals as goal

pub loop-i-init : goal.loop-i-init
loop-i-init c =
    let a = c.args in
    let h = c.requires.words_len in
    goes_on (begins _ _ _ _ _ c.requires.from_in_bounds (words_length a.words.now a.places.now (h.0 ∙ sym h.1) ∙ h.0))

pub text_ends-requires : goal.text_ends-requires
text_ends-requires c = c.loop-i.invariant.inside

pub item_at-requires : goal.item_at-requires
item_at-requires c =
    let going = sym c.text_ends.ensures ∙ c.loop-i-test.true in
    text_inside c.args.s.now c.loop-i.i going

pub loop-i-smaller-in-Gap : goal.loop-i-smaller-in-Gap
loop-i-smaller-in-Gap c =
    let going = sym c.text_ends.ensures ∙ c.loop-i-test.true in
    let passed = step_gap c.args.s.now c.loop-i.i going c.in-Gap.next (sym c.item_at.ensures ∙ c.in-Ok.is ∙ ap Ok c.in-Gap.is) in
    let g = passed.1 in omega (arith, g.forward, g.inside)

pub loop-i-preserved-in-Gap : goal.loop-i-preserved-in-Gap
loop-i-preserved-in-Gap c =
    let going = sym c.text_ends.ensures ∙ c.loop-i-test.true in
    let passed = step_gap c.args.s.now c.loop-i.i going c.in-Gap.next (sym c.item_at.ensures ∙ c.in-Ok.is ∙ ap Ok c.in-Gap.is) in
    gap_along c.loop-i.invariant c.in-Gap.next passed.0 passed.1

pub loop-i-smaller-then-is_some : goal.loop-i-smaller-then-is_some
loop-i-smaller-then-is_some c =
    let going = sym c.text_ends.ensures ∙ c.loop-i-test.true in
    let stepped = step_word c.args.s.now c.loop-i.i going c.in-Says.w c.in-Says.next (sym c.item_at.ensures ∙ c.in-Ok.is ∙ ap Ok c.in-Says.is) in
    let g = stepped.1 in omega (arith, g.forward, g.inside)

pub loop-i-preserved-then-is_some : goal.loop-i-preserved-then-is_some
loop-i-preserved-then-is_some c =
    let going = sym c.text_ends.ensures ∙ c.loop-i-test.true in
    let stepped = step_word c.args.s.now c.loop-i.i going c.in-Says.w c.in-Says.next (sym c.item_at.ensures ∙ c.in-Ok.is ∙ ap Ok c.in-Says.is) in
    word_halted c.loop-i.invariant (some_is (sym c.is_some.ensures ∙ c.if-is_some.true)) c.in-Says.w c.in-Says.next stepped.0 stepped.1

pub letter_place-k-requires : goal.letter_place-k-requires
letter_place-k-requires c =
    let going = sym c.text_ends.ensures ∙ c.loop-i-test.true in
    let stepped = step_word c.args.s.now c.loop-i.i going c.in-Says.w c.in-Says.next (sym c.item_at.ensures ∙ c.in-Ok.is ∙ ap Ok c.in-Says.is) in
    stepped.3

pub bounds-letters-k : goal.bounds-letters-k
bounds-letters-k c =
    let going = sym c.text_ends.ensures ∙ c.loop-i-test.true in
    let stepped = step_word c.args.s.now c.loop-i.i going c.in-Says.w c.in-Says.next (sym c.item_at.ensures ∙ c.in-Ok.is ∙ ap Ok c.in-Says.is) in
    rw c.letter_place-k.ensures (place_inside _ stepped.3)

pub loop-i-smaller-in-MayNot : goal.loop-i-smaller-in-MayNot
loop-i-smaller-in-MayNot c =
    let going = sym c.text_ends.ensures ∙ c.loop-i-test.true in
    let stepped = step_word c.args.s.now c.loop-i.i going c.in-Says.w c.in-Says.next (sym c.item_at.ensures ∙ c.in-Ok.is ∙ ap Ok c.in-Says.is) in
    let g = stepped.1 in omega (arith, g.forward, g.inside)

pub loop-i-preserved-in-MayNot : goal.loop-i-preserved-in-MayNot
loop-i-preserved-in-MayNot c =
    let going = sym c.text_ends.ensures ∙ c.loop-i-test.true in
    let stepped = step_word c.args.s.now c.loop-i.i going c.in-Says.w c.in-Says.next (sym c.item_at.ensures ∙ c.in-Ok.is ∙ ap Ok c.in-Says.is) in
    let read = c.loop-i.invariant.going (none_of (sym c.is_some.ensures ∙ c.if-is_some.false)) in
    let step = stepped in
    stops (halts read c.in-Says.w c.in-Says.next step.0 step.1 (subst (λ (r : Role). Plays c.args.main read.done c.in-Says.w r) c.in-MayNot.is
    (c.role_of.ensures.is read.done read.sums.coded
    (ap (λ (k : ℕ). get_or c.loop-i.letters k false) c.letter_place-k.ensures ∙ letter_stood read _ stepped.3)
    (read.sums.letters 6 (lit< tt)))))

pub bounds-groups-g : goal.bounds-groups-g
bounds-groups-g c = rw c.group_of-g.ensures (group_most _)

pub loop-i-smaller-in-Code : goal.loop-i-smaller-in-Code
loop-i-smaller-in-Code c =
    let going = sym c.text_ends.ensures ∙ c.loop-i-test.true in
    let stepped = step_word c.args.s.now c.loop-i.i going c.in-Says.w c.in-Says.next (sym c.item_at.ensures ∙ c.in-Ok.is ∙ ap Ok c.in-Says.is) in
    let g = stepped.1 in omega (arith, g.forward, g.inside)

pub loop-i-preserved-in-Code : goal.loop-i-preserved-in-Code
loop-i-preserved-in-Code c =
    let going = sym c.text_ends.ensures ∙ c.loop-i-test.true in
    let stepped = step_word c.args.s.now c.loop-i.i going c.in-Says.w c.in-Says.next (sym c.item_at.ensures ∙ c.in-Ok.is ∙ ap Ok c.in-Says.is) in
    let read = c.loop-i.invariant.going (none_of (sym c.is_some.ensures ∙ c.if-is_some.false)) in
    let step = stepped in
    let code = subst (λ (r : Role). Plays c.args.main read.done c.in-Says.w r) c.in-Code.is
    (c.role_of.ensures.is read.done read.sums.coded
    (ap (λ (k : ℕ). get_or c.loop-i.letters k false) c.letter_place-k.ensures ∙ letter_stood read _ stepped.3)
    (read.sums.letters 6 (lit< tt))) in
    rw (none_of (sym c.is_some.ensures ∙ c.if-is_some.false), c.group_of-g.ensures, c.switched-modes.ensures)
    (goes_on (over_code read c.in-Says.w c.in-Says.next step.0 step.1 step.2 step.3 code.0 c.in-Code.c code.1 code.2))

pub loop-i-smaller-in-Misc : goal.loop-i-smaller-in-Misc
loop-i-smaller-in-Misc c =
    let going = sym c.text_ends.ensures ∙ c.loop-i-test.true in
    let stepped = step_word c.args.s.now c.loop-i.i going c.in-Says.w c.in-Says.next (sym c.item_at.ensures ∙ c.in-Ok.is ∙ ap Ok c.in-Says.is) in
    let g = stepped.1 in omega (arith, g.forward, g.inside)

pub loop-i-preserved-in-Misc : goal.loop-i-preserved-in-Misc
loop-i-preserved-in-Misc c =
    let going = sym c.text_ends.ensures ∙ c.loop-i-test.true in
    let stepped = step_word c.args.s.now c.loop-i.i going c.in-Says.w c.in-Says.next (sym c.item_at.ensures ∙ c.in-Ok.is ∙ ap Ok c.in-Says.is) in
    let read = c.loop-i.invariant.going (none_of (sym c.is_some.ensures ∙ c.if-is_some.false)) in
    let step = stepped in
    let misc = subst (λ (r : Role). Plays c.args.main read.done c.in-Says.w r) c.in-Misc.is
    (c.role_of.ensures.is read.done read.sums.coded
    (ap (λ (k : ℕ). get_or c.loop-i.letters k false) c.letter_place-k.ensures ∙ letter_stood read _ stepped.3)
    (read.sums.letters 6 (lit< tt))) in
    rw (none_of (sym c.is_some.ensures ∙ c.if-is_some.false)) (goes_on (over_misc read c.in-Says.w c.in-Says.next step.0 step.1 step.2 step.3 misc.0 c.in-Misc.m misc.1 misc.2))

pub bounds-letters-k-in-Value : goal.bounds-letters-k-in-Value
bounds-letters-k-in-Value c =
    let going = sym c.text_ends.ensures ∙ c.loop-i-test.true in
    let stepped = step_word c.args.s.now c.loop-i.i going c.in-Says.w c.in-Says.next (sym c.item_at.ensures ∙ c.in-Ok.is ∙ ap Ok c.in-Says.is) in
    rw c.letter_place-k.ensures (place_inside _ stepped.3)

pub pack-requires : goal.pack-requires
pack-requires c =
    let going = sym c.text_ends.ensures ∙ c.loop-i-test.true in
    let stepped = step_word c.args.s.now c.loop-i.i going c.in-Says.w c.in-Says.next (sym c.item_at.ensures ∙ c.in-Ok.is ∙ ap Ok c.in-Says.is) in
    stepped.2

pub overflow_add-count : goal.overflow_add-count
overflow_add-count c =
    let going = sym c.text_ends.ensures ∙ c.loop-i-test.true in
    let stepped = step_word c.args.s.now c.loop-i.i going c.in-Says.w c.in-Says.next (sym c.item_at.ensures ∙ c.in-Ok.is ∙ ap Ok c.in-Says.is) in
    let read = c.loop-i.invariant.going (none_of (sym c.is_some.ensures ∙ c.if-is_some.false)) in
    let step = stepped in
    let value = subst (λ (r : Role). Plays c.args.main read.done c.in-Says.w r) c.in-Value.is
    (c.role_of.ensures.is read.done read.sums.coded
    (ap (λ (k : ℕ). get_or c.loop-i.letters k false) c.letter_place-k.ensures ∙ letter_stood read _ stepped.3)
    (read.sums.letters 6 (lit< tt))) in
    let placed = room read c.in-Says.w c.in-Says.next step.0 step.1 step.2 step.3 value.0 value.1 in
    omega (arith, placed)

pub loop-i-smaller : goal.loop-i-smaller
loop-i-smaller c =
    let going = sym c.text_ends.ensures ∙ c.loop-i-test.true in
    let stepped = step_word c.args.s.now c.loop-i.i going c.in-Says.w c.in-Says.next (sym c.item_at.ensures ∙ c.in-Ok.is ∙ ap Ok c.in-Says.is) in
    let g = stepped.1 in omega (arith, g.forward, g.inside)

pub loop-i-preserved : goal.loop-i-preserved
loop-i-preserved c =
    let going = sym c.text_ends.ensures ∙ c.loop-i-test.true in
    let stepped = step_word c.args.s.now c.loop-i.i going c.in-Says.w c.in-Says.next (sym c.item_at.ensures ∙ c.in-Ok.is ∙ ap Ok c.in-Says.is) in
    let read = c.loop-i.invariant.going (none_of (sym c.is_some.ensures ∙ c.if-is_some.false)) in
    let step = stepped in
    let value = subst (λ (r : Role). Plays c.args.main read.done c.in-Says.w r) c.in-Value.is
    (c.role_of.ensures.is read.done read.sums.coded
    (ap (λ (k : ℕ). get_or c.loop-i.letters k false) c.letter_place-k.ensures ∙ letter_stood read _ stepped.3)
    (read.sums.letters 6 (lit< tt))) in
    let l = c.loop-i in
    let w = c.in-Says.w in
    let small : w.letter < 256 = omega (arith, place_inside w.letter step.3) in
    rw (none_of (sym c.is_some.ensures ∙ c.if-is_some.false), c.letter_place-k.ensures, c.pack.ensures, word_put l.words l.places l.count w step.2 small)
    (goes_on (over_valued read w c.in-Says.next step.0 step.1 step.2 step.3 value.0 value.1))

pub returns-in-Some : goal.returns-in-Some
returns-in-Some c = end_blamed c.loop-i.invariant (sym c.text_ends.ensures ∙ c.loop-i-test.false) c.in-Some.blame c.in-Some.is

pub returns : goal.returns
returns c = end_fine c.loop-i.invariant (sym c.text_ends.ensures ∙ c.loop-i-test.false) c.in_default.is

pub returns-in-Err : goal.returns-in-Err
returns-in-Err c =
    let going = sym c.text_ends.ensures ∙ c.loop-i-test.true in
    bad_along c.loop-i.invariant c.in-Err.refusal (step_bad c.args.s.now c.loop-i.i going c.in-Err.refusal (sym c.item_at.ensures ∙ c.in-Err.is))

pub offset_bounds-words-count : goal.offset_bounds-words-count
offset_bounds-words-count c =
    let going = sym c.text_ends.ensures ∙ c.loop-i-test.true in
    let stepped = step_word c.args.s.now c.loop-i.i going c.in-Says.w c.in-Says.next (sym c.item_at.ensures ∙ c.in-Ok.is ∙ ap Ok c.in-Says.is) in
    let read = c.loop-i.invariant.going (none_of (sym c.is_some.ensures ∙ c.if-is_some.false)) in
    let step = stepped in
    let value = subst (λ (r : Role). Plays c.args.main read.done c.in-Says.w r) c.in-Value.is
    (c.role_of.ensures.is read.done read.sums.coded
    (ap (λ (k : ℕ). get_or c.loop-i.letters k false) c.letter_place-k.ensures ∙ letter_stood read _ stepped.3)
    (read.sums.letters 6 (lit< tt))) in
    let placed = room read c.in-Says.w c.in-Says.next step.0 step.1 step.2 step.3 value.0 value.1 in
    omega (arith, placed)

pub bounds-words-count : goal.bounds-words-count
bounds-words-count c =
    let going = sym c.text_ends.ensures ∙ c.loop-i-test.true in
    let stepped = step_word c.args.s.now c.loop-i.i going c.in-Says.w c.in-Says.next (sym c.item_at.ensures ∙ c.in-Ok.is ∙ ap Ok c.in-Says.is) in
    let read = c.loop-i.invariant.going (none_of (sym c.is_some.ensures ∙ c.if-is_some.false)) in
    let step = stepped in
    let value = subst (λ (r : Role). Plays c.args.main read.done c.in-Says.w r) c.in-Value.is
    (c.role_of.ensures.is read.done read.sums.coded
    (ap (λ (k : ℕ). get_or c.loop-i.letters k false) c.letter_place-k.ensures ∙ letter_stood read _ stepped.3)
    (read.sums.letters 6 (lit< tt))) in
    let placed = room read c.in-Says.w c.in-Says.next step.0 step.1 step.2 step.3 value.0 value.1 in
    placed

pub offset_bounds-places-count : goal.offset_bounds-places-count
offset_bounds-places-count c =
    let going = sym c.text_ends.ensures ∙ c.loop-i-test.true in
    let stepped = step_word c.args.s.now c.loop-i.i going c.in-Says.w c.in-Says.next (sym c.item_at.ensures ∙ c.in-Ok.is ∙ ap Ok c.in-Says.is) in
    let read = c.loop-i.invariant.going (none_of (sym c.is_some.ensures ∙ c.if-is_some.false)) in
    let step = stepped in
    let value = subst (λ (r : Role). Plays c.args.main read.done c.in-Says.w r) c.in-Value.is
    (c.role_of.ensures.is read.done read.sums.coded
    (ap (λ (k : ℕ). get_or c.loop-i.letters k false) c.letter_place-k.ensures ∙ letter_stood read _ stepped.3)
    (read.sums.letters 6 (lit< tt))) in
    let placed = room read c.in-Says.w c.in-Says.next step.0 step.1 step.2 step.3 value.0 value.1 in
    omega (arith, placed)

pub bounds-places-count : goal.bounds-places-count
bounds-places-count c =
    let going = sym c.text_ends.ensures ∙ c.loop-i-test.true in
    let stepped = step_word c.args.s.now c.loop-i.i going c.in-Says.w c.in-Says.next (sym c.item_at.ensures ∙ c.in-Ok.is ∙ ap Ok c.in-Says.is) in
    let read = c.loop-i.invariant.going (none_of (sym c.is_some.ensures ∙ c.if-is_some.false)) in
    let step = stepped in
    let value = subst (λ (r : Role). Plays c.args.main read.done c.in-Says.w r) c.in-Value.is
    (c.role_of.ensures.is read.done read.sums.coded
    (ap (λ (k : ℕ). get_or c.loop-i.letters k false) c.letter_place-k.ensures ∙ letter_stood read _ stepped.3)
    (read.sums.letters 6 (lit< tt))) in
    let placed = room read c.in-Says.w c.in-Says.next step.0 step.1 step.2 step.3 value.0 value.1 in
    placed
