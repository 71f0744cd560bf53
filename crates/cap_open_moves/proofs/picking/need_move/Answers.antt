use Rattle.std.proofs.Common.{sym, ◌∙◌}
use Rattle.cap_rules_steps.proofs.Walking.{needed, unneeded}
use Rattle.cap_open_moves.proofs.picking.need_move.Goals as goal

pub returns-then-may_move : goal.returns-then-may_move
returns-then-may_move c = needed _ (sym c.may_move.ensures ∙ c.if-may_move.true)

pub returns-else-may_move : goal.returns-else-may_move
returns-else-may_move c = unneeded _ (sym c.may_move.ensures ∙ c.if-may_move.false)
