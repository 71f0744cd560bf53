use Rattle.std.proofs.lemmas.Result.{err_from_is_err_and}
use Rattle.cap_parse_tree.specs.declared.statement.Statement.{Statement}
use Rattle.std.proofs.Common.{Vec, Global, map, option_map, Ok, rules, not, ap, sym, ◌∙◌, arith}
use Rattle.cap_parse_laws.specs.Classes.{are_same}
use Rattle.std.proofs.lemmas.Bool.Decides.{nat_tests}
use Rattle.cap_parse.specs.Parts.{condition_view}
use Rattle.cap_parse.proofs.Inside.{block-inside}
use Rattle.cap_parse_tree.specs.declared.statement.Statement.TheFolds.{the_lemmas}
use Rattle.cap_parse_tree.specs.Tree.{loop}
use Rattle.cap_parse_tree.specs.Views.{comparison_view, clause_view, statement_view, block_view, else_view}
use Rattle.cap_parse_laws.specs.Grammar.{read_statement, block_at}
use Rattle.cap_parse_laws.specs.Readers.{read_while}
use Rattle.cap_parse_laws.specs.declared.class.Class.TheVariants.{CloseBrace}
use Rattle.cap_parse_laws.specs.Laws.Taking.{statement-takes, statement-ends}
use Rattle.cap_parse.proofs.Loops.{while-pushed, while-refuses}
use Rattle.cap_parse.proofs.Parts.{then-stops, branch_parts, loop_parts}
use Rattle.cap_parse.proofs.cursor.Cursor.+statements.Goals as goal

pub block-returns-then-room-gt0 : goal.block-returns-then-room-gt0
block-returns-then-room-gt0 t c =
    rw (block-inside c.args.room c.args.self.now.rest (grind (arith, nat_tests, c.if-room-gt0.true)))
    c.statements_in_braces.ensures

pub statements-loop-self-preserved : goal.statements-loop-self-preserved
statements-loop-self-preserved t c =
    rw c.in_ok-push.ensures.items
    (while-pushed (λ k. not (are_same CloseBrace k)) (read_statement (block_at c.args.room) c.args.room) statement_view (statement-takes c.args.room) (statement-ends c.args.room (λ k. not (are_same CloseBrace k))) c.loop-self.statements.items c.in_ok-statement.statement
    c.loop-self.self.rest c.statement.new.self.rest (read_while (λ k. not (are_same CloseBrace k)) (read_statement (block_at c.args.room) c.args.room) c.args.self.now.rest)
    (ap not (sym c.is_ahead.ensures) ∙ ap not c.loop-self-test.true) c.in_ok-statement.ensures c.loop-self.invariant)

pub statements-loop-self-smaller : goal.statements-loop-self-smaller
statements-loop-self-smaller t c =
    ((statement-takes c.args.room) c.loop-self.self.rest).fewer (statement_view c.in_ok-statement.statement) c.statement.new.self.rest c.in_ok-statement.ensures

pub statements-returns-in_err-statement : goal.statements-returns-in_err-statement
statements-returns-in_err-statement t c =
    let p = err_from_is_err_and c.from_residual.result c.from_residual.ensures.1 in
    rw (p.1, p.2)
    (while-refuses {Y = Vec Statement Global} (λ k. not (are_same CloseBrace k)) (read_statement (block_at c.args.room) c.args.room) statement_view (λ v. map statement_view v.items) (statement-takes c.args.room) (statement-ends c.args.room (λ k. not (are_same CloseBrace k))) (map statement_view c.loop-self.statements.items)
    c.loop-self.self.rest c.statement.new.self.rest (read_while (λ k. not (are_same CloseBrace k)) (read_statement (block_at c.args.room) c.args.room) c.args.self.now.rest) c.in_err-statement.field-0.0
    (ap not (sym c.is_ahead.ensures) ∙ ap not c.loop-self-test.true) c.in_err-statement.ensures c.loop-self.invariant)

pub branch-returns : goal.branch-returns
branch-returns t c =
    branch_parts (block_at c.args.room) c.args.room c.args.self.now.rest
    ∙ rw (c.in_ok-condition.ensures, c.in_ok-block.ensures, c.in_ok-otherwise.ensures) (search (rules, the_lemmas))

pub repetition-returns : goal.repetition-returns
repetition-returns t c =
    loop_parts (block_at c.args.room) c.args.room c.args.self.now.rest
    ∙ rw (c.in_ok-condition.ensures, c.in_ok-invariant.ensures, c.in_ok-block.ensures) (search (rules, the_lemmas))

pub repetition-returns-in_err-block : goal.repetition-returns-in_err-block
repetition-returns-in_err-block t c =
    let p = err_from_is_err_and c.from_residual-in_err-block.result c.from_residual-in_err-block.ensures.1 in
    rw (p.1, p.2, loop_parts (block_at c.args.room) c.args.room c.args.self.now.rest, c.in_ok-condition.ensures, c.in_ok-invariant.ensures)
    (then-stops block_view statement_view c.block.new.self.rest c.in_err-block.field-0.0 (block_at c.args.room c.optional_clause.new.self.rest)
    (λ b. Ok (
      loop c.in_ok-condition.condition.key c.in_ok-condition.condition.«open» (comparison_view c.in_ok-condition.condition.comparison)
          c.in_ok-condition.condition.close (option_map clause_view c.in_ok-invariant.invariant) b.0,
      b.1,
    ))
    c.in_err-block.ensures)

pub branch-returns-in_err-condition : goal.branch-returns-in_err-condition
branch-returns-in_err-condition t c =
    let p = err_from_is_err_and c.from_residual.result c.from_residual.ensures.1 in
    rw (p.1, p.2, branch_parts (block_at c.args.room) c.args.room c.args.self.now.rest)
    (then-stops condition_view statement_view _ _ _ _ c.in_err-condition.ensures)

pub branch-returns-in_err-block : goal.branch-returns-in_err-block
branch-returns-in_err-block t c =
    let p = err_from_is_err_and c.from_residual-in_err-block.result c.from_residual-in_err-block.ensures.1 in
    rw (p.1, p.2, branch_parts (block_at c.args.room) c.args.room c.args.self.now.rest, c.in_ok-condition.ensures)
    (then-stops block_view statement_view _ _ _ _ c.in_err-block.ensures)

pub branch-returns-in_err-otherwise : goal.branch-returns-in_err-otherwise
branch-returns-in_err-otherwise t c =
    let p = err_from_is_err_and c.from_residual-in_err-otherwise.result c.from_residual-in_err-otherwise.ensures.1 in
    rw (p.1, p.2, branch_parts (block_at c.args.room) c.args.room c.args.self.now.rest, c.in_ok-condition.ensures, c.in_ok-block.ensures)
    (then-stops (option_map else_view) statement_view _ _ _ _ c.in_err-otherwise.ensures)

pub repetition-returns-in_err-condition : goal.repetition-returns-in_err-condition
repetition-returns-in_err-condition t c =
    let p = err_from_is_err_and c.from_residual.result c.from_residual.ensures.1 in
    rw (p.1, p.2, loop_parts (block_at c.args.room) c.args.room c.args.self.now.rest)
    (then-stops condition_view statement_view _ _ _ _ c.in_err-condition.ensures)

pub repetition-returns-in_err-invariant : goal.repetition-returns-in_err-invariant
repetition-returns-in_err-invariant t c =
    let p = err_from_is_err_and c.from_residual-in_err-invariant.result c.from_residual-in_err-invariant.ensures.1 in
    rw (p.1, p.2, loop_parts (block_at c.args.room) c.args.room c.args.self.now.rest, c.in_ok-condition.ensures)
    (then-stops (option_map clause_view) statement_view _ _ _ _ c.in_err-invariant.ensures)
