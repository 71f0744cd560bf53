use Rattle.std.proofs.lemmas.Result.{err_from_is_err_and}
use Rattle.cap_parse_tree.specs.declared.region.Action.{Action}
use Rattle.std.proofs.Common.{Vec, Global, map, not, ap, sym, ◌∙◌}
use Rattle.cap_parse_laws.specs.Classes.{are_same}
use Rattle.cap_parse_tree.specs.Views.{action_view}
use Rattle.cap_parse_laws.specs.Grammar.{read_action}
use Rattle.cap_parse_laws.specs.Readers.{read_while}
use Rattle.cap_parse_laws.specs.declared.class.Class.TheVariants.{CloseBrace}
use Rattle.cap_parse_laws.specs.Laws.Taking.{action-takes, action-ends}
use Rattle.cap_parse.proofs.Loops.{while-pushed, while-refuses}
use Rattle.cap_parse.proofs.cursor.Cursor.actions.Goals as goal

pub loop-self-preserved : goal.loop-self-preserved
loop-self-preserved c =
    rw c.in_ok-push.ensures.items
    (while-pushed (λ k. not (are_same CloseBrace k)) (read_action c.args.room) action_view (action-takes c.args.room) (action-ends c.args.room (λ k. not (are_same CloseBrace k))) c.loop-self.actions.items c.in_ok-action.action
    c.loop-self.self.rest c.action.new.self.rest (read_while (λ k. not (are_same CloseBrace k)) (read_action c.args.room) c.args.self.now.rest)
    (ap not (sym c.is_ahead.ensures) ∙ ap not c.loop-self-test.true) c.in_ok-action.ensures c.loop-self.invariant)

pub loop-self-smaller : goal.loop-self-smaller
loop-self-smaller c =
    ((action-takes c.args.room) c.loop-self.self.rest).fewer (action_view c.in_ok-action.action) c.action.new.self.rest c.in_ok-action.ensures

pub returns-in_err-action : goal.returns-in_err-action
returns-in_err-action c =
    let p = err_from_is_err_and c.from_residual.result c.from_residual.ensures.1 in
    rw (p.1, p.2)
    (while-refuses {Y = Vec Action Global} (λ k. not (are_same CloseBrace k)) (read_action c.args.room) action_view (λ v. map action_view v.items) (action-takes c.args.room) (action-ends c.args.room (λ k. not (are_same CloseBrace k))) (map action_view c.loop-self.actions.items)
    c.loop-self.self.rest c.action.new.self.rest (read_while (λ k. not (are_same CloseBrace k)) (read_action c.args.room) c.args.self.now.rest) c.in_err-action.field-0.0
    (ap not (sym c.is_ahead.ensures) ∙ ap not c.loop-self-test.true) c.in_err-action.ensures c.loop-self.invariant)
