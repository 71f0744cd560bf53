use Rattle.std.proofs.Common.{ap, ◌∙◌}
use Rattle.cap_prog.specs.Views.{region_view}
use Rattle.cap_goal_spec.specs.States.{PlainFact}
use Rattle.cap_open_moves.proofs.Picks.{stays-there}
use Rattle.cap_open_moves.proofs.picking.move_target.Goals as goal

pub returns-then-action-eq0 : goal.returns-then-action-eq0
returns-then-action-eq0 c = stays-there (region_view c.args.region.now) c.args.fact.now c.args.action _ c.if-action-eq0.true (c.in_ok-copy.ensures ∙ ap (λ (f : PlainFact). f.state) c.fact.view_is)
