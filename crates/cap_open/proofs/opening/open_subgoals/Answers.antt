use Rattle.std.proofs.Common.{List, subst}
use Rattle.cap_lin.specs.declared.row.Row.{Row}
use Rattle.cap_prog.specs.Views.{program_view}
use Rattle.cap_goal_spec.specs.States.{PlainGoal}
use Rattle.cap_goal.specs.Views.{goal_view, choice_view}
use Rattle.cap_rules.specs.Answers.{marks_of}
use Rattle.cap_rules.specs.Attempts.{Attempt}
use Rattle.cap_rules.specs.Rules.{rule}
use Rattle.cap_rules_steps.specs.Goals.{goals_view}
use Rattle.cap_rules_steps.specs.Walks.{Claims, seen}
use Rattle.cap_open.proofs.Heading.{by_rule}
use Rattle.cap_open.proofs.opening.open_subgoals.Goals as goal

pub returns : goal.returns
returns c =
    let p = program_view c.args.program.now in
    let g = goal_view c.args.goal.now in
    let x = choice_view c.args.choice.now in
    let after = c.opened_by-outcome.new.ledger in
    let outcome = seen goals_view c.opened_by-outcome.result in
    let told = rw (c.deref.ensures.value, c.deref-2.ensures.value, c.in_ok-marks.ensures) at c.opened_by-outcome.ensures in
    let ruled = subst (λ (o : Attempt (List PlainGoal)). Claims outcome c.new-ledger.result after o) (by_rule p g x (marks_of x) c.requires.opening) told in
    let begun = subst (λ (ls : List (List Row)). Claims outcome ls after (rule p g x (marks_of x))) c.new-ledger.ensures ruled in
    let judged = c.judged.ensures (rule p g x (marks_of x)) begun in
    rw (c.deref-3.ensures.value, c.in_ok-certs.ensures) at judged
