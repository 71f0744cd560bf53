use Rattle.std.proofs.Common.{rules, ◌∙◌}
use Rattle.std.proofs.lemmas.Result.{err_from_is_err_and}
use Rattle.cap_syntax.specs.declared.place.Place.{Place}
use Rattle.cap_parse_tree.specs.declared.statement.Statement.TheFolds.{the_lemmas}
use Rattle.cap_parse_tree.specs.Views.{statement_view, term_view}
use Rattle.cap_parse.specs.Parts.{term_in_brackets_view}
use Rattle.cap_parse.proofs.Parts.{then-stops, store_parts}
use Rattle.cap_parse.proofs.cursor.Cursor.store.Goals as goal

pub returns : goal.returns
returns c =
    store_parts c.args.room c.args.self.now.rest
    ∙ rw (c.in_ok-address.ensures, c.in_ok-becomes.ensures, c.in_ok-value.ensures, c.in_ok-semicolon.ensures)
    (search (rules, the_lemmas))

pub returns-in_err-address : goal.returns-in_err-address
returns-in_err-address c =
    let p = err_from_is_err_and c.from_residual.result c.from_residual.ensures.1 in
    rw (p.1, p.2, store_parts c.args.room c.args.self.now.rest)
    (then-stops term_in_brackets_view statement_view _ _ _ _ c.in_err-address.ensures)

pub returns-in_err-becomes : goal.returns-in_err-becomes
returns-in_err-becomes c =
    let p = err_from_is_err_and c.from_residual-in_err-becomes.result c.from_residual-in_err-becomes.ensures.1 in
    rw (p.1, p.2, store_parts c.args.room c.args.self.now.rest, c.in_ok-address.ensures)
    (then-stops {X = Place} (λ p. p) statement_view _ _ _ _ c.in_err-becomes.ensures)

pub returns-in_err-value : goal.returns-in_err-value
returns-in_err-value c =
    let p = err_from_is_err_and c.from_residual-in_err-value.result c.from_residual-in_err-value.ensures.1 in
    rw (p.1, p.2, store_parts c.args.room c.args.self.now.rest, c.in_ok-address.ensures, c.in_ok-becomes.ensures)
    (then-stops term_view statement_view _ _ _ _ c.in_err-value.ensures)

pub returns-in_err-semicolon : goal.returns-in_err-semicolon
returns-in_err-semicolon c =
    let p = err_from_is_err_and c.from_residual-in_err-semicolon.result c.from_residual-in_err-semicolon.ensures.1 in
    rw (p.1, p.2, store_parts c.args.room c.args.self.now.rest, c.in_ok-address.ensures, c.in_ok-becomes.ensures, c.in_ok-value.ensures)
    (then-stops {X = Place} (λ p. p) statement_view _ _ _ _ c.in_err-semicolon.ensures)
