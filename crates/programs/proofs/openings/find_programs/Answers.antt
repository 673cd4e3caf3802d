use Rattle.terms.proofs.Common.{◌<◌, ◌≡◌, sym, ◌∙◌, true, length, drop, get_or, arith}
use Rattle.lines.{specs.Blocks.begins_with, specs.Blocks.text_from, proofs.Lines.length_some}
use Rattle.programs.specs.Found.{table_of}
use Rattle.programs.proofs.Scanning.{next_inside, opens_at, found_plain, found_bad, found_number}
use Rattle.programs.proofs.openings.find_programs.Goals as goal

pub begins_with-requires : goal.begins_with-requires
begins_with-requires c = omega (arith, c.next_block-at.ensures, next_inside c.args.s.now 0 (omega arith))

pub scan_openings-requires : goal.scan_openings-requires
scan_openings-requires c =
    omega (arith, c.next_block-at.ensures, length_some c.args.s.now 0 (omega arith))

pub returns-then-not-begins_with : goal.returns-then-not-begins_with
returns-then-not-begins_with c =
    c.scan_openings.ensures
    ∙ found_plain c.args.s.now c.next_block-at.result c.next_block-at.ensures c.only_main.result
    (sym c.begins_with.ensures ∙ c.if-not-begins_with.true) c.only_main.ensures

pub overflow_add-at : goal.overflow_add-at
overflow_add-at c =
    let begins : begins_with 79 (text_from (drop c.next_block-at.result c.args.s.now)) ≡ true = sym c.begins_with.ensures ∙ c.if-not-begins_with.false in
    let opened : (c.next_block-at.result < length c.args.s.now) × (get_or c.args.s.now c.next_block-at.result 0 ≡ 79) = opens_at c.args.s.now c.next_block-at.result begins in
    let o = opened in omega (arith, o.0)

pub read_opening-requires : goal.read_opening-requires
read_opening-requires c =
    let begins : begins_with 79 (text_from (drop c.next_block-at.result c.args.s.now)) ≡ true = sym c.begins_with.ensures ∙ c.if-not-begins_with.false in
    let opened : (c.next_block-at.result < length c.args.s.now) × (get_or c.args.s.now c.next_block-at.result 0 ≡ 79) = opens_at c.args.s.now c.next_block-at.result begins in
    let o = opened in omega (arith, o.0)

pub next_block-next-requires : goal.next_block-next-requires
next_block-next-requires c =
    let begins : begins_with 79 (text_from (drop c.next_block-at.result c.args.s.now)) ≡ true = sym c.begins_with.ensures ∙ c.if-not-begins_with.false in
    let opened : (c.next_block-at.result < length c.args.s.now) × (get_or c.args.s.now c.next_block-at.result 0 ≡ 79) = opens_at c.args.s.now c.next_block-at.result begins in
    let o = opened in omega (arith, o.0)

pub scan_openings-requires-2 : goal.scan_openings-requires-2
scan_openings-requires-2 c =
    let begins : begins_with 79 (text_from (drop c.next_block-at.result c.args.s.now)) ≡ true = sym c.begins_with.ensures ∙ c.if-not-begins_with.false in
    let opened : (c.next_block-at.result < length c.args.s.now) × (get_or c.args.s.now c.next_block-at.result 0 ≡ 79) = opens_at c.args.s.now c.next_block-at.result begins in
    let o = opened in
    let l = c.args.s.now in
    let at = c.next_block-at.result in
    omega (arith, c.next_block-next.ensures, length_some l at o.0, c.next_block-at.ensures, length_some l 0 (omega (arith, o.0)))

pub returns-in_default : goal.returns-in_default
unfolding table_of
returns-in_default c =
    let begins : begins_with 79 (text_from (drop c.next_block-at.result c.args.s.now)) ≡ true = sym c.begins_with.ensures ∙ c.if-not-begins_with.false in
    found_bad c.args.s.now c.next_block-at.result c.next_block-at.ensures begins
    (sym c.read_opening.ensures ∙ c.in_default.is)

pub returns : goal.returns
returns c =
    let begins : begins_with 79 (text_from (drop c.next_block-at.result c.args.s.now)) ≡ true = sym c.begins_with.ensures ∙ c.if-not-begins_with.false in
    c.scan_openings-2.ensures
    ∙ found_number c.args.s.now c.next_block-at.result c.next_block-at.ensures begins
    _ c.next_block-next.result c.only_main-2.result (sym c.read_opening.ensures ∙ c.in-Some.is)
    c.next_block-next.ensures c.only_main-2.ensures
