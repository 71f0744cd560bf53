use Rattle.std.proofs.Common.{ℕ, List, Option, subst}
use Rattle.cap_lin.specs.declared.row.Row.{Row}
use Rattle.cap_farkas.specs.declared.cert.Cert.{Cert}
use Rattle.std.specs.Borrow.{Bor}
use Rattle.cap_prog.specs.Views.{program_view}
use Rattle.cap_goal_spec.specs.States.{PlainGoal}
use Rattle.cap_goal.specs.declared.task.Task.{Task}
use Rattle.cap_goal.specs.Views.{tasks_view, goal_view, choice_view, certs_in}
use Rattle.cap_rules.specs.Answers.{marks_of}
use Rattle.cap_rules.specs.Attempts.{Attempt}
use Rattle.cap_rules.specs.Rules.{rule}
use Rattle.cap_rules_steps.specs.Goals.{goals_view}
use Rattle.cap_rules_steps.specs.Judging.{Answered}
use Rattle.cap_rules_steps.specs.Walks.{Claims, seen}
use Rattle.cap_stab.specs.Heads.{numbers_seen, rest_tasks}
use Rattle.cap_stab.proofs.Headed.{by_rule}
use Rattle.cap_stab.proofs.stab.stab_subgoals.Goals as goal

pub returns : goal.returns
returns c =
    let p = program_view c.args.program.now in
    let g = goal_view c.args.goal.now in
    let x = choice_view c.args.choice.now in
    let after = c.settle_first-outcome.new.ledger in
    let outcome = seen goals_view c.settle_first-outcome.result in
    let first = subst (λ (ts : List Task). Claims outcome c.new-ledger.result after (rest_tasks p g.state (numbers_seen c.numbers.result) (tasks_view ts))) c.deref.ensures.value c.settle_first-outcome.ensures in
    let numbered = subst (λ (l : Option (List ℕ)). Claims outcome c.new-ledger.result after (rest_tasks p g.state l g.tasks)) c.numbers.ensures first in
    let ruled = subst (λ (o : Attempt (List PlainGoal)). Claims outcome c.new-ledger.result after o) (by_rule p g x (marks_of x) c.requires.settling) numbered in
    let begun = subst (λ (ls : List (List Row)). Claims outcome ls after (rule p g x (marks_of x))) c.new-ledger.ensures ruled in
    let judged = c.judged.ensures (rule p g x (marks_of x)) begun in
    let given = subst (λ (cs : List (Bor Cert)). Answered (seen goals_view c.judged.result) (rule p g x (marks_of x)) (certs_in cs)) c.deref-2.ensures.value judged in
    subst (λ (cs : List Cert). Answered (seen goals_view c.judged.result) (rule p g x (marks_of x)) cs) c.in_ok-certs.ensures given
