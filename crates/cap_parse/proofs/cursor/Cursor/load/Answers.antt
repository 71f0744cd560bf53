use Rattle.std.proofs.Common.{refl, ◌∙◌}
use Rattle.std.proofs.lemmas.Result.{err_from_is_err_and}
use Rattle.cap_parse_tree.specs.Views.{value_view}
use Rattle.cap_parse.specs.Parts.{term_in_brackets_view}
use Rattle.cap_parse.proofs.Parts.{then-stops, load_parts}
use Rattle.cap_parse.proofs.cursor.Cursor.load.Goals as goal

pub returns : goal.returns
returns c =
    load_parts c.args.room c.args.self.now.rest
    ∙ rw c.in_ok-open.ensures refl

pub returns-in_err-open : goal.returns-in_err-open
returns-in_err-open c =
    let p = err_from_is_err_and c.from_residual.result c.from_residual.ensures.1 in
    rw (p.1, p.2, load_parts c.args.room c.args.self.now.rest)
    (then-stops term_in_brackets_view value_view _ _ _ _ c.in_err-open.ensures)
