use Rattle.std.proofs.Common.{rules, ◌≡◌, ◌<◌, length, sym, ◌∙◌, arith}
use Rattle.cap_prog.specs.Program.{branch}
use Rattle.cap_prog.specs.Parts.{all_statements}
use Rattle.cap_prog.specs.Views.{act_view, block_view}
use Rattle.cap_prog.specs.declared.function.Act.TheFolds.{the_lemmas}
use Rattle.cap_search_trees.proofs.Printing.{numbered-first, numbered-later, statement-skipped, statement-holds}
use Rattle.cap_search_trees.proofs.places.+numbers.Goals as goal

pub place_within-returns-in-Some : goal.place_within-returns-in-Some
place_within-returns-in-Some t c =
    let e : act_view c.args.act.now ≡ branch c.in-If.field-0 (block_view c.in-If.yes.items) (block_view c.in-If.no.items) = search (rules, the_lemmas) in
    rw e (sym (numbered-first c.args.number (all_statements (block_view c.in-If.yes.items)) (all_statements (block_view c.in-If.no.items)) c.in-Some.place (sym (rw c.deref.ensures.value at c.in-Some.ensures))))

pub place_within-returns-in-None : goal.place_within-returns-in-None
place_within-returns-in-None t c =
    let e : act_view c.args.act.now ≡ branch c.in-If.field-0 (block_view c.in-If.yes.items) (block_view c.in-If.no.items) = search (rules, the_lemmas) in
    rw e ((rw c.deref-in-None.ensures.value at c.place_in-in-None.ensures) ∙ sym (numbered-later c.args.number (all_statements (block_view c.in-If.yes.items)) (all_statements (block_view c.in-If.no.items)) (sym (rw c.deref.ensures.value at c.in-None.ensures))))

pub place_in-returns-in-Some : goal.place_in-returns-in-Some
place_in-returns-in-Some t c =
    let s = c.statement-item.result in
    let h : c.loop-statement.statement-index < length c.args.list.now = omega arith in
    sym (c.loop-statement.invariant
    ∙ statement-holds c.args.number c.args.list.now c.loop-statement.statement-index s c.in-Some.place h c.statement-item.is c.if-statement-number.false (sym c.in-Some.ensures))

pub place_in-loop-statement-preserved : goal.place_in-loop-statement-preserved
place_in-loop-statement-preserved t c =
    let s = c.statement-item.result in
    let h : c.loop-statement.statement-index < length c.args.list.now = omega arith in
    c.loop-statement.invariant
    ∙ statement-skipped c.args.number c.args.list.now c.loop-statement.statement-index s h c.statement-item.is c.if-statement-number.false (sym c.in-None.ensures)
