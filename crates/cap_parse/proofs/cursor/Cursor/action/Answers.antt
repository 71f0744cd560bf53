use Rattle.std.proofs.Common.{refl, ◌∙◌}
use Rattle.std.proofs.lemmas.Result.{err_from_is_err_and}
use Rattle.cap_parse_tree.specs.Views.{action_view}
use Rattle.cap_parse.specs.Parts.{action_end_view, action_guards_view, transition_view}
use Rattle.cap_parse.proofs.Parts.{then-stops, action_parts}
use Rattle.cap_parse.proofs.cursor.Cursor.action.Goals as goal

pub returns : goal.returns
returns c =
    action_parts c.args.room c.args.self.now.rest
    ∙ rw (c.in_ok-guards.ensures, c.in_ok-transition.ensures, c.in_ok-when.ensures) refl

pub returns-in_err-guards : goal.returns-in_err-guards
returns-in_err-guards c =
    let p = err_from_is_err_and c.from_residual.result c.from_residual.ensures.1 in
    rw (p.1, p.2, action_parts c.args.room c.args.self.now.rest)
    (then-stops action_guards_view action_view _ _ _ _ c.in_err-guards.ensures)

pub returns-in_err-transition : goal.returns-in_err-transition
returns-in_err-transition c =
    let p = err_from_is_err_and c.from_residual-in_err-transition.result c.from_residual-in_err-transition.ensures.1 in
    rw (p.1, p.2, action_parts c.args.room c.args.self.now.rest, c.in_ok-guards.ensures)
    (then-stops transition_view action_view _ _ _ _ c.in_err-transition.ensures)

pub returns-in_err-when : goal.returns-in_err-when
returns-in_err-when c =
    let p = err_from_is_err_and c.from_residual-in_err-when.result c.from_residual-in_err-when.ensures.1 in
    rw (p.1, p.2, action_parts c.args.room c.args.self.now.rest, c.in_ok-guards.ensures, c.in_ok-transition.ensures)
    (then-stops action_end_view action_view _ _ _ _ c.in_err-when.ensures)
