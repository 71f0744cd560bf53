use Rattle.std.proofs.Common.{ap, ◌∙◌}
use Rattle.cap_goal.specs.Views.{home_view}
use Rattle.cap_rules_steps.specs.Goals.{ahead, point_view}
use Rattle.cap_open.specs.Heads.{ahead_view}
use Rattle.cap_open.proofs.Heading.{first_ahead}
use Rattle.cap_open.proofs.heads.ahead_in.Goals as goal

pub returns-in-Some : goal.returns-in-Some
returns-in-Some c =
    let e = c.in_ok-next_statement.ensures ∙ ap ahead c.in-Some.is in
    first_ahead (home_view c.args.home) (point_view c.args.point.now) (c.in-Some.statement, c.in-Some.rest) (ahead_view c.with_statement.result) e c.with_statement.ensures
