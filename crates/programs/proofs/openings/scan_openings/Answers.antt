-- `programs::openings::scan_openings` meets its contract. The blocks: what is left of the data gives the same. The bytes of a block: it ends
-- where it would from the byte reached, and past its first byte it is neither an opening nor the closing `%`.
use Rattle.terms.proofs.Common.{refl, sym, ◌∙◌, ap, arith}
use Rattle.lines.proofs.Lines.{length_some}
use Rattle.programs.specs.{Openings.entry_of, Found.subs_of, Found.table_of}
use Rattle.programs.proofs.{Entries.entry_room}
use Rattle.programs.proofs.Scanning.{Scan, scan_start, stopped_end, stopped_percent, passed_plain, passed_opening, refused_opening, passing_more}
use Rattle.programs.proofs.openings.scan_openings.Goals as goal

pub blocks-2-init : goal.blocks-2-init
blocks-2-init c =
    scan_start c.args.s.now c.args.from c.args.number c.args.found c.requires

pub loop-i-init : goal.loop-i-init
loop-i-init c = (record { begun = omega arith; left = refl; plain = λ k. absurd (omega arith) }, omega arith, λ began s. s)

pub blocks-2-preserved-then-s-i-eq10 : goal.blocks-2-preserved-then-s-i-eq10
blocks-2-preserved-then-s-i-eq10 c =
    let begun : Scan c.args.s.now c.args.from c.args.number c.args.found c.loop-i.programs c.loop-i.at c.loop-i.block = c.loop-i.invariant.2 _ c.blocks-2.invariant in
    passed_plain begun c.loop-i.invariant.0 (omega arith) c.if-s-i-eq10.true

pub loop-i-preserved-then-at-i : goal.loop-i-preserved-then-at-i
loop-i-preserved-then-at-i c =
    let i = c.loop-i.invariant in
    (passing_more _ i.0 (omega arith) c.if-s-i-eq10.false (i.0.plain (omega arith)) (omega arith, refl), i.1, i.2)

pub returns-in-Err : goal.returns-in-Err
unfolding table_of
returns-in-Err c =
    let begun : Scan c.args.s.now c.args.from c.args.number c.args.found c.loop-i.programs c.loop-i.at c.loop-i.block = c.loop-i.invariant.2 _ c.blocks-2.invariant in
    refused_opening begun (omega arith) (sym c.is_percent.ensures ∙ c.if-is_percent.false) c.in-Err.refusal c.if-s-at-eq79.true
    (ap (entry_of c.loop-i.programs.main (subs_of c.loop-i.programs)) (sym c.read_opening.ensures)
    ∙ sym c.entry_of.ensures ∙ c.in-Err.is)

pub with_program-programs-requires : goal.with_program-programs-requires
with_program-programs-requires c =
    entry_room c.loop-i.programs c.read_opening.result _ (sym c.entry_of.ensures ∙ c.in-Ok.is)

pub blocks-2-smaller : goal.blocks-2-smaller
blocks-2-smaller c =
    omega (arith, c.next_block-at.ensures, c.loop-i.invariant, length_some c.args.s.now c.loop-i.at (omega (arith, c.loop-i.invariant, c.loop-i-test.true)))

pub blocks-2-preserved : goal.blocks-2-preserved
blocks-2-preserved c =
    let begun : Scan c.args.s.now c.args.from c.args.number c.args.found c.loop-i.programs c.loop-i.at c.loop-i.block = c.loop-i.invariant.2 _ c.blocks-2.invariant in
    passed_opening begun (omega (arith, c.loop-i.invariant, c.loop-i-test.true)) (sym c.is_percent.ensures ∙ c.if-is_percent.false) _ c.next_block-at.result c.with_program-programs.result
    c.if-s-at-eq79.true
    (ap (entry_of c.loop-i.programs.main (subs_of c.loop-i.programs)) (sym c.read_opening.ensures)
    ∙ sym c.entry_of.ensures ∙ c.in-Ok.is)
    c.next_block-at.ensures c.with_program-programs.ensures

pub loop-i-preserved : goal.loop-i-preserved
loop-i-preserved c =
    let i = c.loop-i.invariant in
    (passing_more _ i.0 (omega arith) c.if-s-i-eq10.false (sym c.is_percent.ensures ∙ c.if-is_percent.false, c.if-s-at-eq79.false) c.near_end-i.ensures, i.1, i.2)

pub returns-then-is_percent : goal.returns-then-is_percent
unfolding table_of
returns-then-is_percent c =
    let begun : Scan c.args.s.now c.args.from c.args.number c.args.found c.loop-i.programs c.loop-i.at c.loop-i.block = c.loop-i.invariant.2 _ c.blocks-2.invariant in
    stopped_percent begun (omega arith) (sym c.is_percent.ensures ∙ c.if-is_percent.true)

pub returns-after-loop-i : goal.returns-after-loop-i
unfolding table_of
returns-after-loop-i c =
    let begun : Scan c.args.s.now c.args.from c.args.number c.args.found c.loop-i.programs c.loop-i.at c.loop-i.block = c.loop-i.invariant.2 _ c.blocks-2.invariant in
    stopped_end begun c.loop-i.invariant.0 (omega arith)

pub overflow_add-block : goal.overflow_add-block
overflow_add-block c =
    let begun : Scan c.args.s.now c.args.from c.args.number c.args.found c.loop-i.programs c.loop-i.at c.loop-i.block = c.loop-i.invariant.2 _ c.blocks-2.invariant in
    omega (arith, begun.counted)

pub overflow_add-block-in-Ok : goal.overflow_add-block-in-Ok
overflow_add-block-in-Ok c =
    let begun : Scan c.args.s.now c.args.from c.args.number c.args.found c.loop-i.programs c.loop-i.at c.loop-i.block = c.loop-i.invariant.2 _ c.blocks-2.invariant in
    omega (arith, begun.counted)
