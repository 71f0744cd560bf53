use Rattle.std.proofs.Common.{map, drop}
use Rattle.cap_prog.specs.Views.{case_view}
use Rattle.cap_goal.specs.Views.{goal_view, tasks_view}
use Rattle.cap_rules_steps.specs.cap_rules.Closing.{case_goals}
use Rattle.cap_rules_steps.proofs.Walking.{LeadsBehind}
use Rattle.cap_open_enter.proofs.entering.case_goals.Given as goal

abbrev pub invariant-loop-case : goal.invariant-loop-case
invariant-loop-case l = LeadsBehind (map goal_view l.goals.items) (case_goals l.state l.fact l.at (tasks_view l.tasks) (map case_view (drop l.case-index l.cases))) (case_goals l.state l.fact l.at (tasks_view l.tasks) (map case_view l.cases))
