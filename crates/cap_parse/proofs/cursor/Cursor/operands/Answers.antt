use Rattle.std.proofs.Common.{refl, ◌∙◌}
use Rattle.std.proofs.lemmas.Result.{err_from_is_err_and}
use Rattle.cap_parse_tree.specs.Views.{term_view}
use Rattle.cap_parse.specs.Parts.{operand_view, operands_view}
use Rattle.cap_parse.proofs.Parts.{then-stops, operands_parts}
use Rattle.cap_parse.proofs.cursor.Cursor.operands.Goals as goal

pub returns : goal.returns
returns c =
    operands_parts c.args.room c.args.self.now.rest
    ∙ rw (c.in_ok-address.ensures, c.in_ok-expected.ensures, c.in_ok-new.ensures) refl

pub returns-in_err-address : goal.returns-in_err-address
returns-in_err-address c =
    let p = err_from_is_err_and c.from_residual.result c.from_residual.ensures.1 in
    rw (p.1, p.2, operands_parts c.args.room c.args.self.now.rest)
    (then-stops operand_view operands_view _ _ _ _ c.in_err-address.ensures)

pub returns-in_err-expected : goal.returns-in_err-expected
returns-in_err-expected c =
    let p = err_from_is_err_and c.from_residual-in_err-expected.result c.from_residual-in_err-expected.ensures.1 in
    rw (p.1, p.2, operands_parts c.args.room c.args.self.now.rest, c.in_ok-address.ensures)
    (then-stops operand_view operands_view _ _ _ _ c.in_err-expected.ensures)

pub returns-in_err-new : goal.returns-in_err-new
returns-in_err-new c =
    let p = err_from_is_err_and c.from_residual-in_err-new.result c.from_residual-in_err-new.ensures.1 in
    rw (p.1, p.2, operands_parts c.args.room c.args.self.now.rest, c.in_ok-address.ensures, c.in_ok-expected.ensures)
    (then-stops term_view operands_view _ _ _ _ c.in_err-new.ensures)
