use Rattle.std.proofs.Common.{ℕ, refl, ◌∙◌}
use Rattle.std.proofs.lemmas.Result.{err_from_is_err_and}
use Rattle.cap_syntax.specs.declared.place.Place.{Place}
use Rattle.cap_parse_tree.specs.Views.{value_view}
use Rattle.cap_parse.specs.Parts.{operands_view}
use Rattle.cap_parse.proofs.Parts.{then-stops, cas_parts}
use Rattle.cap_parse.proofs.cursor.Cursor.cas.Goals as goal

pub returns : goal.returns
returns c =
    cas_parts c.args.room c.args.self.now.rest
    ∙ rw (c.in_ok-key.ensures, c.in_ok-inner.ensures, c.in_ok-operands.ensures, c.in_ok-close.ensures) refl

pub returns-in_err-key : goal.returns-in_err-key
returns-in_err-key c =
    let p = err_from_is_err_and c.from_residual.result c.from_residual.ensures.1 in
    rw (p.1, p.2, cas_parts c.args.room c.args.self.now.rest)
    (then-stops {X = Place} (λ p. p) value_view _ _ _ _ c.in_err-key.ensures)

pub returns-in_err-inner : goal.returns-in_err-inner
returns-in_err-inner c =
    let p = err_from_is_err_and c.from_residual-in_err-inner.result c.from_residual-in_err-inner.ensures.1 in
    rw (p.1, p.2, cas_parts c.args.room c.args.self.now.rest, c.in_ok-key.ensures)
    (then-stops {X = ℕ × Place} (λ o. o) value_view _ _ _ _ c.in_err-inner.ensures)

pub returns-in_err-operands : goal.returns-in_err-operands
returns-in_err-operands c =
    let p = err_from_is_err_and c.from_residual-in_err-operands.result c.from_residual-in_err-operands.ensures.1 in
    rw (p.1, p.2, cas_parts c.args.room c.args.self.now.rest, c.in_ok-key.ensures, c.in_ok-inner.ensures)
    (then-stops operands_view value_view _ _ _ _ c.in_err-operands.ensures)

pub returns-in_err-close : goal.returns-in_err-close
returns-in_err-close c =
    let p = err_from_is_err_and c.from_residual-in_err-close.result c.from_residual-in_err-close.ensures.1 in
    rw (p.1, p.2, cas_parts c.args.room c.args.self.now.rest, c.in_ok-key.ensures, c.in_ok-inner.ensures, c.in_ok-operands.ensures)
    (then-stops {X = Place} (λ p. p) value_view _ _ _ _ c.in_err-close.ensures)
