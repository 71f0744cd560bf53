use Rattle.std.proofs.Common.{List, sym, ap, subst, ◌∙◌}
use Rattle.std.specs.Prelude.{IfOk}
use Rattle.cap_prog.specs.Views.{act_view, program_view}
use Rattle.cap_goal.specs.Views.{goal_view}
use Rattle.cap_goal_spec.specs.Choices.{PlainChoice}
use Rattle.cap_offer_spec.specs.Deciding.{Noted}
use Rattle.cap_closure_decide.specs.Noting.{Adds}
use Rattle.cap_offer.specs.Heads.{by_rule}
use Rattle.cap_offer.specs.Views.{choices_view}
use Rattle.cap_offer.proofs.Headed.{statement-choices}
use Rattle.cap_offer.proofs.heap.at_statement.Goals as goal

pub returns-in-None : goal.returns-in-None
returns-in-None c =
    let p = program_view c.args.program.now in
    let g = goal_view c.args.goal.now in
    let a = act_view c.args.act.now in
    let e = statement-choices p g a ∙ ap (by_rule p g a) (sym c.in-None.ensures) in
    subst (λ (m : Noted (List PlainChoice)). IfOk c.at_heap.result (λ v. Adds c.args.notes.now c.at_heap.new.notes (choices_view v.items) m)) (sym e) c.at_heap.ensures

pub returns-in-Some : goal.returns-in-Some
returns-in-Some c =
    let p = program_view c.args.program.now in
    let g = goal_view c.args.goal.now in
    let a = act_view c.args.act.now in
    let e = statement-choices p g a ∙ ap (by_rule p g a) (sym c.in-Some.ensures) in
    subst (λ (m : Noted (List PlainChoice)). IfOk c.tried_alone.result (λ v. Adds c.args.notes.now c.tried_alone.new.notes (choices_view v.items) m)) (sym e) c.tried_alone.ensures
