use Rattle.std.proofs.Common.{Some, None, ◌+◌, option_map, subst, arith}
use Rattle.cap_prog.specs.Views.{program_view}
use Rattle.cap_goal.specs.Views.{goal_view, choice_view}
use Rattle.cap_rules_steps.specs.Goals.{goals_view}
use Rattle.cap_kernel_check_steps.specs.Debts.{owed_view}
use Rattle.cap_kernel_check_steps.specs.Views.{AreKept}
use Rattle.cap_kernel_check_steps.specs.Walks.{Leaves}
use Rattle.cap_kernel_check_steps.proofs.Stacks.{leaves-owed, left-kept}
use Rattle.cap_kernel_check_steps.proofs.owing.left_below.Goals as goal

pub returns-in-None-clause-left : goal.returns-in-None-clause-left
returns-in-None-clause-left c =
    let p = program_view c.args.program.now in
    let g = goal_view c.args.goal.now in
    let h = choice_view c.args.choice.now in
    let l : Leaves p g h None = subst (λ o. Leaves p g h (option_map goals_view o)) c.in-None.is c.in_ok-goals_left.ensures.left in
    λ gs x. l gs x.1

pub returns-in_ok-owed_below-in-Some-clause-left :
    goal.returns-in_ok-owed_below-in-Some-clause-left
returns-in_ok-owed_below-in-Some-clause-left c =
    let p = program_view c.args.program.now in
    let g = goal_view c.args.goal.now in
    let h = choice_view c.args.choice.now in
    let l : Leaves p g h (Some (goals_view c.in-Some.goals)) = subst (λ o. Leaves p g h (option_map goals_view o)) c.in-Some.is c.in_ok-goals_left.ensures.left in
    leaves-owed p c.args.above g h (goals_view c.in-Some.goals) (owed_view c.in_ok-owed_below-in-Some.field-0.items) (omega (arith, c.requires.shallow, c.if-above-eq-DEEPEST.false)) l c.in_ok-owed_below-in-Some.ensures

pub returns-in_ok-owed_below-in-Some-clause-kept :
    goal.returns-in_ok-owed_below-in-Some-clause-kept
returns-in_ok-owed_below-in-Some-clause-kept c = λ k.
    let p = program_view c.args.program.now in
    left-kept p (c.args.above + 1) (goals_view c.in-Some.goals) (owed_view c.in_ok-owed_below-in-Some.field-0.items) (subst (λ o. AreKept p (option_map goals_view o)) c.in-Some.is (c.in_ok-goals_left.ensures.kept k)) c.in_ok-owed_below-in-Some.ensures
