use Rattle.std.proofs.Common.{subst, Some, option_map, arith}
use Rattle.cap_prog.specs.Views.{program_view}
use Rattle.cap_goal.specs.declared.choice.Node.{out-Node}
use Rattle.cap_goal.specs.Views.{goal_view, choice_view}
use Rattle.cap_rules_steps.specs.Goals.{goals_view}
use Rattle.cap_rules_fits.specs.Kept.{IsKept}
use Rattle.cap_kernel_check_steps.specs.Views.{walk_view}
use Rattle.cap_kernel_check_steps.specs.Walks.{goes_on, Leaves}
use Rattle.cap_kernel_check_steps.proofs.Walking.{visits-some, each-at, missing-rest}
use Rattle.cap_kernel_check.proofs.tree.+walk.Goals as goal

pub visit-returns-in-Some : goal.visit-returns-in-Some
visit-returns-in-Some t c =
    let p = program_view c.args.program.now in
    let g = goal_view c.args.goal.now in
    let n = out-Node c.args.node.now in
    let l : Leaves p g (choice_view n.choice) (Some (goals_view c.in-Some.goals)) = subst (λ o. Leaves p g (choice_view n.choice) (option_map goals_view o)) c.in-Some.is c.in_ok-goals_left.ensures.left in
    visits-some p (walk_view c.args.walk.now) c.below.new.walk c.below.result c.args.room c.args.node.now g (goals_view c.in-Some.goals) c.if-room-eq0.false l
    (rw (c.deref.ensures.value, c.deref-in-Some.ensures.value) at c.below.ensures)

pub visit_all-visit-requires : goal.visit_all-visit-requires
visit_all-visit-requires t c =
    (omega arith, each-at (IsKept (program_view c.args.program.now)) goal_view c.args.goals.now c.loop-index.index c.in-Some.goal.now c.requires c.in-Some.ensures.lookup.3.0 c.in-Some.ensures.lookup.1)

pub visit_all-returns-then-nodes-goals : goal.visit_all-returns-then-nodes-goals
visit_all-returns-then-nodes-goals t c =
    c.loop-index.invariant.remains (goes_on (walk_view c.lack.new.self))
    (missing-rest (program_view c.args.program.now) (walk_view c.loop-index.walk) (walk_view c.lack.new.self) c.args.room c.loop-index.index c.args.nodes.now c.args.goals.now c.loop-index-test.false (omega (arith, c.loop-index.auto.index-end, c.if-nodes-goals.true)) c.lack.ensures)
