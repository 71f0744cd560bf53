use Rattle.std.proofs.Common.{arith, ap, ◌∙◌}
use Rattle.std.proofs.lemmas.Result.{err_from_is_err_and}
use Rattle.cap_goal_spec.specs.States.{PlainState}
use Rattle.cap_take_guards.proofs.Full.{fulls-next, fulls-stop, fulls-end}
use Rattle.cap_take_guards.proofs.fulls.without_full.Goals as goal

pub returns-in_err-without_piece-clause-claims : goal.returns-in_err-without_piece-clause-claims
returns-in_err-without_piece-clause-claims c =
    let p = err_from_is_err_and c.from_residual.result c.from_residual.ensures.1 in
    let k = ap (λ (t : PlainState). t.rows) c.loop-full.invariant.kept in
    let m = rw k at c.in_err-without_piece.ensures.claims in
    rw (p.1, p.2) (fulls-stop c.args.state.now.rows c.loop-full.state.guards c.args.fulls.now c.loop-full.full-index c.full-item.result _ _ _ _ _ (omega arith) c.full-item.is m c.loop-full.invariant.leads)

pub loop-full-preserved : goal.loop-full-preserved
loop-full-preserved c =
    let k = ap (λ (t : PlainState). t.rows) c.loop-full.invariant.kept in
    let m = rw k at c.in_ok-without_piece.ensures.claims in
    record {
      leads = fulls-next c.args.state.now.rows c.loop-full.state.guards c.without_piece.new.state.guards c.args.fulls.now c.loop-full.full-index c.full-item.result _ _ _ _ (omega arith) c.full-item.is m c.loop-full.invariant.leads;
      kept = c.in_ok-without_piece.ensures.kept ∙ ap (λ (t : PlainState). record t { guards = c.without_piece.new.state.guards }) c.loop-full.invariant.kept;
    }

pub returns-clause-claims : goal.returns-clause-claims
returns-clause-claims c = fulls-end c.args.state.now.rows c.loop-full.state.guards c.args.fulls.now c.loop-full.full-index _ _ _ (omega arith) c.loop-full.invariant.leads
