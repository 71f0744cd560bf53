use Rattle.std.proofs.Common.{sym, ap, ◌∙◌}
use Rattle.cap_prog.specs.Views.{program_view}
use Rattle.cap_goal.specs.Views.{choice_view}
use Rattle.cap_rules_steps.proofs.Walking.{weaker}
use Rattle.cap_pure.specs.Heads.{upcoming_seen, run_rule}
use Rattle.cap_pure.proofs.Others.{made-none}
use Rattle.cap_pure.proofs.pure.at_run.Goals as goal

pub returns-in-None : goal.returns-in-None
returns-in-None c =
    let e = sym c.in_ok-running.ensures ∙ ap upcoming_seen c.in-None.is in
    weaker _ _ c.args.ledger.now (made-none _ (ap (run_rule (program_view c.args.program.now) c.args.state.now (choice_view c.args.choice.now)) e))
