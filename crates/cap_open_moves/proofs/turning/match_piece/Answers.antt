use Rattle.cap_open_moves.proofs.Indexed.{span-alone}
use Rattle.cap_open_moves.proofs.turning.match_piece.Goals as goal

pub returns : goal.returns
returns c = span-alone c.args.state.now c.args.fact.now c.args.env.now c.args.guard.now c.args.number c.match_span.result _ _ c.match_span.ensures.claims
