use Rattle.std.proofs.Common.{drop}
use Rattle.cap_prog.specs.Views.{region_view}
use Rattle.cap_goal_spec.specs.Candidates.{candidates}
use Rattle.cap_rules.specs.Resting.{named_candidates}
use Rattle.cap_rules_steps.proofs.Walking.{Leads}
use Rattle.cap_stab_states.proofs.Collecting.{behind_these}
use Rattle.cap_stab.proofs.settling.named_candidates.Given as goal

abbrev pub invariant-loop-number : goal.invariant-loop-number
invariant-loop-number l =
    Leads (behind_these l.rows.items (named_candidates l.low (candidates (region_view l.region) l.state l.fact) (drop l.number-index l.list))) (named_candidates 1 (candidates (region_view l.region) l.state l.fact) l.list)
