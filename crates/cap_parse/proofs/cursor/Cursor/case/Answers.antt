use Rattle.std.proofs.Common.{refl, ◌∙◌}
use Rattle.std.proofs.lemmas.Result.{err_from_is_err_and}
use Rattle.cap_syntax.specs.declared.place.Place.{Place}
use Rattle.cap_parse_tree.specs.Views.{assertion_view, case_view}
use Rattle.cap_parse.specs.Parts.{case_head_view}
use Rattle.cap_parse.proofs.Parts.{then-stops, case_parts}
use Rattle.cap_parse.proofs.cursor.Cursor.case.Goals as goal

pub returns : goal.returns
returns c =
    case_parts c.args.room c.args.self.now.rest
    ∙ rw (c.in_ok-head.ensures, c.in_ok-assertion.ensures, c.in_ok-semicolon.ensures) refl

pub returns-in_err-head : goal.returns-in_err-head
returns-in_err-head c =
    let p = err_from_is_err_and c.from_residual.result c.from_residual.ensures.1 in
    rw (p.1, p.2, case_parts c.args.room c.args.self.now.rest)
    (then-stops case_head_view case_view _ _ _ _ c.in_err-head.ensures)

pub returns-in_err-assertion : goal.returns-in_err-assertion
returns-in_err-assertion c =
    let p = err_from_is_err_and c.from_residual-in_err-assertion.result c.from_residual-in_err-assertion.ensures.1 in
    rw (p.1, p.2, case_parts c.args.room c.args.self.now.rest, c.in_ok-head.ensures)
    (then-stops assertion_view case_view _ _ _ _ c.in_err-assertion.ensures)

pub returns-in_err-semicolon : goal.returns-in_err-semicolon
returns-in_err-semicolon c =
    let p = err_from_is_err_and c.from_residual-in_err-semicolon.result c.from_residual-in_err-semicolon.ensures.1 in
    rw (p.1, p.2, case_parts c.args.room c.args.self.now.rest, c.in_ok-head.ensures, c.in_ok-assertion.ensures)
    (then-stops {X = Place} (λ p. p) case_view _ _ _ _ c.in_err-semicolon.ensures)
