-- What contracts see of cases, actions and pieces that are lent, and of parts of a move that wait.
use Rattle.std.specs.Prelude.{Result, Ok, Err}
use Rattle.std.specs.Borrow.{Bor}
use Rattle.std.specs.Global.{Vec}
use Rattle.cap_gsolve.specs.declared.piece.Piece.{Piece}
use Rattle.cap_prog.specs.declared.region.Case.{Case}
use Rattle.cap_prog.specs.declared.region.Action.{Action}
use Rattle.cap_prog.specs.Program.{PlainCase, PlainAction}
use Rattle.cap_prog.specs.Views.{case_view, action_view}
use Rattle.cap_goal_spec.specs.States.{PlainEnv}
use Rattle.cap_rules.specs.Closing as closing
use Rattle.cap_rules_steps.specs.declared.error.RuleError.{RuleError}
use Rattle.cap_offer_spec.specs.Turning as turning
use Rattle.cap_open_moves_parts.specs.declared.parts.MovePart.{MovePart}
use Rattle.cap_open_moves_parts.specs.Views.{parts_view}
use Rattle.cap_open_moves.specs.declared.turning.Turn.{Turn}

abbrev pub case_lent : Bor Case → PlainCase
case_lent c = case_view c.now

abbrev pub action_lent : Bor Action → PlainAction
action_lent a = action_view a.now

abbrev pub piece_lent : Bor Piece → Piece
piece_lent q = q.now

abbrev pub turn_view : Turn → turning.Turn
turn_view t = record { state = t.state; env = t.env }

-- a call gives the parts that wait, and what the environment becomes
abbrev pub matched_with :
    Result (Vec MovePart) RuleError → PlainEnv → Result closing.Matched RuleError
matched_with (Ok v) env = Ok (record { env = env; waiting = parts_view v.items })
matched_with (Err e) env = Err e
