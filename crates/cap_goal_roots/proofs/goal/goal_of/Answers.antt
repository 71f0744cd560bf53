use Rattle.std.proofs.Common.{length, take, ap, sym, Some, ◌∙◌, arith}
use Rattle.cap_goal_spec.specs.States.{goal, goal_of}
use Rattle.cap_goal.specs.Views.{tasks_view}
use Rattle.cap_goal_roots.proofs.Goals.{goal_none, goal_some}
use Rattle.cap_goal_roots.proofs.goal.goal_of.Goals as goals

pub returns-then-left-eq0 : goals.returns-then-left-eq0
returns-then-left-eq0 c =
    let left = c.left_over-left.ensures in
    goal_none c.args.state c.deref.result.now _ c.left_over-left.result (ap length c.facts.ensures) left.left left.within (omega arith)
    ∙ ap (λ ts. goal_of c.args.state (tasks_view ts)) c.deref.ensures.value

pub returns : goals.returns
returns c =
    let left = c.left_over-left.ensures in
    ap (λ ts. Some (goal c.args.state (tasks_view ts))) (c.truncate.ensures.items ∙ ap (take c.left_over-left.result) (sym c.deref.ensures.value))
    ∙ (goal_some c.args.state c.deref.result.now _ c.left_over-left.result (ap length c.facts.ensures) left.left left.within (λ z. omega arith)
    ∙ ap (λ ts. goal_of c.args.state (tasks_view ts)) c.deref.ensures.value)
