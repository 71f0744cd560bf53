use Rattle.std.proofs.Common.{ℕ, rules, ◌∙◌}
use Rattle.std.proofs.lemmas.Result.{err_from_is_err_and}
use Rattle.cap_syntax.specs.declared.place.Place.{Place}
use Rattle.cap_parse_tree.specs.declared.assertion.Item.TheFolds.{the_lemmas}
use Rattle.cap_parse_tree.specs.Views.{item_view, slot_view}
use Rattle.cap_parse.specs.Parts.{fact_front_view}
use Rattle.cap_parse.proofs.Parts.{then-stops, fact_parts}
use Rattle.cap_parse.proofs.cursor.Cursor.fact.Goals as goal

pub returns : goal.returns
returns c =
    fact_parts c.args.room c.args.name c.args.self.now.rest
    ∙ rw (c.in_ok-inner.ensures, c.in_ok-front.ensures, c.in_ok-state.ensures, c.in_ok-close.ensures)
    (search (rules, the_lemmas))

pub returns-in_err-inner : goal.returns-in_err-inner
returns-in_err-inner c =
    let p = err_from_is_err_and c.from_residual.result c.from_residual.ensures.1 in
    rw (p.1, p.2, fact_parts c.args.room c.args.name c.args.self.now.rest)
    (then-stops {X = ℕ × Place} (λ o. o) item_view _ _ _ _ c.in_err-inner.ensures)

pub returns-in_err-front : goal.returns-in_err-front
returns-in_err-front c =
    let p = err_from_is_err_and c.from_residual-in_err-front.result c.from_residual-in_err-front.ensures.1 in
    rw (p.1, p.2, fact_parts c.args.room c.args.name c.args.self.now.rest, c.in_ok-inner.ensures)
    (then-stops fact_front_view item_view _ _ _ _ c.in_err-front.ensures)

pub returns-in_err-state : goal.returns-in_err-state
returns-in_err-state c =
    let p = err_from_is_err_and c.from_residual-in_err-state.result c.from_residual-in_err-state.ensures.1 in
    rw (p.1, p.2, fact_parts c.args.room c.args.name c.args.self.now.rest, c.in_ok-inner.ensures, c.in_ok-front.ensures)
    (then-stops slot_view item_view _ _ _ _ c.in_err-state.ensures)

pub returns-in_err-close : goal.returns-in_err-close
returns-in_err-close c =
    let p = err_from_is_err_and c.from_residual-in_err-close.result c.from_residual-in_err-close.ensures.1 in
    rw (p.1, p.2, fact_parts c.args.room c.args.name c.args.self.now.rest, c.in_ok-inner.ensures, c.in_ok-front.ensures, c.in_ok-state.ensures)
    (then-stops {X = Place} (λ p. p) item_view _ _ _ _ c.in_err-close.ensures)
