use Rattle.std.proofs.Common.{◌≡◌, ◌∙◌, ◌+◌, ◌^◌, drop, length, ap, sym, arith, rules}
use borrow.Author.Rules.{get_or_read}
use Rattle.cap_prog.specs.Program.{append}
use Rattle.cap_prog.specs.Views as seen
use Rattle.cap_parse_tree.specs.declared.statement.Statement.TheFolds.{the_lemmas}
use Rattle.cap_parse_tree.specs.Views.{statement_view, block_view}
use Rattle.cap_resolve_spec.specs.Parts.{statement_parts, statements_parts, block_parts}
use Rattle.cap_resolve_spec.specs.Program.{statements_program, block_program, act_program, label, statement_place}
use Rattle.cap_resolve_functions.specs.Bodies.{context_seen}
use Rattle.cap_resolve_functions.proofs.Rests.{statements_view}
use Rattle.cap_resolve_functions.proofs.Members.{statement_of}
use Rattle.cap_resolve_functions.proofs.Trees.{view-Block, statements-rest, statements-done}
use Rattle.cap_resolve_functions.proofs.Blocks.{statement_stays, done_stays, counted_on, one_more, first_below}
use Rattle.cap_resolve_functions.proofs.acts.+acts.Goals as goal

pub build_block-loop-statement-init : goal.build_block-loop-statement-init
build_block-loop-statement-init t c = record {
  built = ap (λ m. append (seen.block_view m) (statements_program (context_seen c.args.body.now) c.args.next.now (statements_view c.deref-statement-items.result.now))) c.new-made.ensures.items
      ∙ (ap (λ xs. statements_program (context_seen c.args.body.now) c.args.next.now (statements_view xs)) c.deref-statement-items.ensures.value
      ∙ ap (block_program (context_seen c.args.body.now) c.args.next.now) (sym (view-Block c.args.block.now)));
  counted = ap (λ xs. c.args.next.now + length (statements_parts (statements_view xs))) c.deref-statement-items.ensures.value
      ∙ ap (λ b. c.args.next.now + length (block_parts b)) (sym (view-Block c.args.block.now));
}

pub build_block-loop-statement-preserved : goal.build_block-loop-statement-preserved
build_block-loop-statement-preserved t c =
    let a = c.in_ok-push_statement.ensures in
    let r = statements-rest c.deref-statement-items.result.now c.loop-statement.statement-index c.statement-item.result c.loop-statement-test.true c.statement-item.is in
    record {
      built = ap (λ m. append (seen.block_view c.push_statement.new.list.items) (statements_program (context_seen c.args.body.now) m (statements_view (drop (c.loop-statement.statement-index + 1) c.deref-statement-items.result.now)))) a.counted
          ∙ statement_stays (seen.block_view c.loop-statement.made.items) (seen.block_view c.push_statement.new.list.items)
          (label c.loop-statement.next (statement_place (statement_view c.statement-item.result))) (act_program (context_seen c.args.body.now) c.loop-statement.next (statement_view c.statement-item.result))
          (statements_program (context_seen c.args.body.now) (c.loop-statement.next + length (statement_parts (statement_view c.statement-item.result))) (statements_view (drop (c.loop-statement.statement-index + 1) c.deref-statement-items.result.now))) _
          a.built
          (ap (λ ss. append (seen.block_view c.loop-statement.made.items) (statements_program (context_seen c.args.body.now) c.loop-statement.next ss)) (sym r) ∙ c.loop-statement.invariant.built);
      counted =
          let n : c.push_statement.new.next ≡ c.loop-statement.next + length (statement_parts (statement_view c.statement-item.result)) = a.counted in
          counted_on c.loop-statement.next c.push_statement.new.next _ (statement_view c.statement-item.result) (statements_view (drop (c.loop-statement.statement-index + 1) c.deref-statement-items.result.now)) n
          (ap (λ ss. c.loop-statement.next + length (statements_parts ss)) (sym r) ∙ c.loop-statement.invariant.counted);
    }

pub build_block-returns-clause-built : goal.build_block-returns-clause-built
build_block-returns-clause-built t c =
    done_stays (seen.block_view c.loop-statement.made.items) (statements_program (context_seen c.args.body.now) c.loop-statement.next (statements_view (drop c.loop-statement.statement-index c.deref-statement-items.result.now))) _
    (ap (statements_program (context_seen c.args.body.now) c.loop-statement.next) (statements-done c.deref-statement-items.result.now c.loop-statement.statement-index c.loop-statement-test.false))
    c.loop-statement.invariant.built

pub build_block-returns-clause-counted : goal.build_block-returns-clause-counted
build_block-returns-clause-counted t c =
    let e : length (statements_parts (statements_view (drop c.loop-statement.statement-index c.deref-statement-items.result.now))) ≡ 0 = ap (λ ss. length (statements_parts ss)) (statements-done c.deref-statement-items.result.now c.loop-statement.statement-index c.loop-statement-test.false) in
    let i : c.loop-statement.next + length (statements_parts (statements_view (drop c.loop-statement.statement-index c.deref-statement-items.result.now))) ≡ c.args.next.now + length (block_parts (block_view c.args.block.now)) = c.loop-statement.invariant.counted in
    omega arith

pub build_act-advance-requires : goal.build_act-advance-requires
build_act-advance-requires t c = one_more c.args.next.now (2 ^ 32) (statement_view c.args.statement.now) c.requires.counted

-- the statement is less deep than the block, it is narrow, and its numbers are below the bound
pub build_block-push_statement-requires : goal.build_block-push_statement-requires
build_block-push_statement-requires t c =
    let r = statements-rest c.deref-statement-items.result.now c.loop-statement.statement-index c.statement-item.result c.loop-statement-test.true c.statement-item.is in (
      search (rules, the_lemmas, get_or_read),
      (
        statement_of (context_seen c.args.body.now) c.args.block.now c.deref-statement-items.result.now c.loop-statement.statement-index c.statement-item.result c.statement-item.is c.loop-statement-test.true c.deref-statement-items.ensures.value c.requires.narrow,
        first_below c.loop-statement.next _ (2 ^ 32) (statement_view c.statement-item.result) (statements_view (drop (c.loop-statement.statement-index + 1) c.deref-statement-items.result.now)) _ r c.loop-statement.invariant.counted c.requires.counted,
      ),
    )
