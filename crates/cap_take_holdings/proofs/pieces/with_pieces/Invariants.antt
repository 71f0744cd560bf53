use Rattle.std.proofs.Common.{drop}
use Rattle.cap_prog.specs.Views.{program_view}
use Rattle.cap_rules_steps.specs.cap_rules.Making.{with_pieces}
use Rattle.cap_rules_steps.proofs.Walking.{Leads}
use Rattle.cap_take_holdings.proofs.pieces.with_pieces.Given as goal

abbrev pub invariant-loop-piece : goal.invariant-loop-piece
invariant-loop-piece l = Leads (with_pieces (program_view l.program) l.state (drop l.piece-index l.pieces)) (with_pieces (program_view l.program) l.fn.state l.pieces)
