use Rattle.cap_prog.specs.Views.{program_view}
use Rattle.cap_goal.specs.Views.{choice_view, goal_view}
use Rattle.cap_rules_steps.specs.Goals.{goals_view}
use Rattle.cap_search_trees.proofs.Kernel.{if-left}
use Rattle.cap_search_trees.proofs.Applying.{only-memory}
use Rattle.cap_search_trees.proofs.Searchable.{left-searchable}
use Rattle.cap_search_trees.proofs.seeking.left_of.Goals as goal

pub returns-clause-left : goal.returns-clause-left
returns-clause-left c =
    let a = c.args in
    if-left goals_view (program_view a.program.now) (goal_view a.goal.now) (choice_view a.choice.now) c.subgoals.result c.subgoals.ensures.answered

pub returns-clause-searchable : goal.returns-clause-searchable
returns-clause-searchable c =
    let a = c.args in
    left-searchable c.subgoals_are_kept.ensures c.subgoals_ascend.ensures goals_view (program_view a.program.now) (goal_view a.goal.now) (choice_view a.choice.now) c.subgoals.result c.well_formed-2.ensures c.requires.searchable c.subgoals.ensures.answered

pub returns-clause-only : goal.returns-clause-only
returns-clause-only c =
    let a = c.args in
    only-memory c.offered_choices_apply.ensures c.owed_rows_ascend.ensures goals_view (program_view a.program.now) (goal_view a.goal.now) (choice_view a.choice.now) c.subgoals.result c.subgoals.ensures.answered c.requires.searchable.ascends c.requires.offered
