use Rattle.std.proofs.Common.{◌≡◌, ◌<◌, suc, ◌+◌, map, take, drop, subst, Some, None, option_map, ◌∙◌, ap, arith}
use Rattle.std.specs.Prelude.{Err}
use Rattle.std.proofs.lemmas.Result.{err_from_is_err_and}
use Rattle.cap_prog.specs.Views.{program_view}
use Rattle.cap_goal_spec.specs.Choices.{node}
use Rattle.cap_rules.specs.Valid.{deepest}
use Rattle.cap_goal.specs.declared.choice.Node.{Node, roll-Node}
use Rattle.cap_goal.specs.declared.choice.Node.TheOpen.{Node-F}
use Rattle.cap_goal.specs.Trees.{node_view, nodes_view}
use Rattle.cap_goal.specs.Views.{choice_view, goal_view}
use Rattle.cap_rules_steps.specs.Goals.{goals_view}
use Rattle.cap_rules_fits.specs.Kept.{IsKept}
use Rattle.cap_kernel_check_steps.specs.Walks.{Leaves}
use Rattle.cap_kernel_check_steps.specs.GrowthViews.{Grows, GrowsAll, preorder_view}
use Rattle.cap_kernel_check_steps.proofs.Walking.{each-at}
use Rattle.cap_kernel_check_steps.proofs.Growing.{node-fails, never-pays, node-halts, node-grows}
use Rattle.cap_kernel_check_steps.proofs.Grown.{map-split, node-made, goals-more, goals-passed, goals-halt}
use Rattle.cap_kernel_check_steps.proofs.growth.+growth.Goals as goal

pub grow-returns-in_default-2 : goal.grow-returns-in_default-2
grow-returns-in_default-2 t c =
    let p = program_view c.args.program.now in
    let g = goal_view c.args.goal.now in
    let h = choice_view c.in-Some.choice.now in
    let left : Leaves p g h None = subst (λ o. Leaves p g h (option_map goals_view o)) c.in_default-2.is c.in_ok-goals.ensures.left in
    rw c.passed-in_default-2.ensures (λ ds. node-fails p c.args.above g ds (preorder_view c.args.choices.now) (preorder_view c.next.new.self) h c.in-Some.ensures (never-pays p c.args.above g h left))

pub grow-returns-in_err-children : goal.grow-returns-in_err-children
grow-returns-in_err-children t c =
    let p = program_view c.args.program.now in
    let g = goal_view c.args.goal.now in
    let h = choice_view c.in-Some.choice.now in
    let gs = goals_view c.in-Some-2.goals in
    let q = err_from_is_err_and c.from_residual-in_err-children.result c.from_residual-in_err-children.ensures.1 in
    let e : c.grow_all.result ≡ Err c.in_err-children.field-0.0 = c.in_err-children.was in
    let low : c.args.above < deepest = omega (arith, c.requires.shallow, c.if-above-eq-DEEPEST.false) in
    let left : Leaves p g h (Some gs) = subst (λ o. Leaves p g h (option_map goals_view o)) c.in-Some-2.is c.in_ok-goals.ensures.left in
    let all : GrowsAll p (c.args.above + 1) gs (preorder_view c.next.new.self) c.grow_all.result (preorder_view c.grow_all.new.choices) = rw c.deref.ensures.value at c.grow_all.ensures in
    rw (q.1, q.2) (node-halts p c.args.above g h gs (preorder_view c.args.choices.now) (preorder_view c.next.new.self) c.in_err-children.field-0.0 low left c.in-Some.ensures
    (subst (λ r. GrowsAll p (c.args.above + 1) gs (preorder_view c.next.new.self) r (preorder_view c.grow_all.new.choices)) e all))

pub grow-returns : goal.grow-returns
grow-returns t c =
    let p = program_view c.args.program.now in
    let g = goal_view c.args.goal.now in
    let h = choice_view c.in-Some.choice.now in
    let gs = goals_view c.in-Some-2.goals in
    let made : Node-F Node = record { choice = c.in_ok-copy.field-0; children = c.in_ok-children.children } in
    let low : c.args.above < deepest = omega (arith, c.requires.shallow, c.if-above-eq-DEEPEST.false) in
    let left : Leaves p g h (Some gs) = subst (λ o. Leaves p g h (option_map goals_view o)) c.in-Some-2.is c.in_ok-goals.ensures.left in
    node-grows p c.args.above g h gs (node_view (roll-Node made)) (nodes_view c.in_ok-children.children.items) (preorder_view c.args.choices.now) (preorder_view c.next.new.self) (preorder_view c.grow_all.new.choices)
    (node-made made ∙ ap (λ x. node x (nodes_view c.in_ok-children.children.items)) c.in_ok-copy.ensures) low left c.in-Some.ensures
    (rw c.deref.ensures.value at c.in_ok-children.ensures)

pub grow_all-grow-requires : goal.grow_all-grow-requires
grow_all-grow-requires t c =
    (omega arith, (c.requires.shallow, each-at (IsKept (program_view c.args.program.now)) goal_view c.args.goals.now c.loop-goal.goal-index c.goal-item.result c.requires.kept c.loop-goal-test.true c.goal-item.is))

pub grow_all-returns-in_err-grow : goal.grow_all-returns-in_err-grow
grow_all-returns-in_err-grow t c =
    let p = program_view c.args.program.now in
    let i = c.loop-goal.goal-index in
    let gs = c.args.goals.now in
    let g = goal_view c.goal-item.result in
    let q = err_from_is_err_and c.from_residual-in_err-grow.result c.from_residual-in_err-grow.ensures.1 in
    let e : c.grow.result ≡ Err c.in_err-grow.field-0.0 = c.in_err-grow.was in
    rw (q.1, q.2) (λ ds. goals-halt p c.args.above (map goal_view gs) (map goal_view (take i gs)) (map goal_view (drop (suc i) gs)) g (nodes_view c.loop-goal.nodes.items) (preorder_view c.args.choices.now) (preorder_view c.loop-goal.choices) c.in_err-grow.field-0.0 ds
    (map-split goal_view gs i c.goal-item.result c.loop-goal-test.true c.goal-item.is) c.loop-goal.invariant.derived c.loop-goal.invariant.passes
    (subst (λ r. Grows p c.args.above g (preorder_view c.loop-goal.choices) r (preorder_view c.grow.new.choices)) e c.grow.ensures))

pub grow_all-loop-goal-preserved : goal.grow_all-loop-goal-preserved
grow_all-loop-goal-preserved t c = record {
  derived = goals-more (program_view c.args.program.now) c.args.above c.loop-goal.goal-index c.args.goals.now c.goal-item.result c.loop-goal.nodes.items c.push.new.self.items c.in_ok-grow.field-0 c.in_ok-push.ensures.items c.loop-goal-test.true c.goal-item.is c.loop-goal.invariant.derived c.in_ok-grow.ensures.0;
  passes = goals-passed c.loop-goal.nodes.items c.push.new.self.items c.in_ok-grow.field-0 (preorder_view c.args.choices.now) (preorder_view c.loop-goal.choices) (preorder_view c.grow.new.choices) c.in_ok-push.ensures.items c.loop-goal.invariant.passes c.in_ok-grow.ensures.1;
}
