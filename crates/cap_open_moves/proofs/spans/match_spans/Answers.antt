use Rattle.std.proofs.Common.{arith, sym, ◌∙◌}
use Rattle.std.proofs.lemmas.Result.{err_from_is_err_and}
use Rattle.cap_open_moves.proofs.Indexed.{span-skips, span-next, span-fails, spans-end}
use Rattle.cap_open_moves.proofs.spans.match_spans.Goals as goal
use Rattle.cap_open_moves.proofs.spans.match_spans.Goals.{then-asks_indices+in_ok-match_span, else-asks_indices}

pub returns-in_err-match_span : goal.returns-in_err-match_span
returns-in_err-match_span c =
    let a = c.args in
    let p = err_from_is_err_and c.from_residual.result c.from_residual.ensures.1 in
    rw (p.1, p.2) (span-fails a.state.now a.fact.now a.env.now a.guards.now c.loop-guard.guard-index c.guard-item.result a.spans.now c.loop-guard.named _ _ _ _ _ (omega arith) c.guard-item.is (sym c.asks_indices.ensures ∙ c.if-asks_indices.true) c.in_err-match_span.ensures.claims c.loop-guard.invariant.leads)

pub loop-guard-preserved : goal.loop-guard-preserved
loop-guard-preserved c =
    let a = c.args in
    elim c.if-asks_indices.branch [
      | then-asks_indices+in_ok-match_span w ↦ rw (w.ledger-is, w.named-is) (record {
        leads = span-next a.state.now a.fact.now a.env.now a.guards.now c.loop-guard.guard-index c.guard-item.result a.spans.now c.loop-guard.named _ _ _ _ (omega arith) c.guard-item.is (sym c.asks_indices.ensures ∙ w.if-asks_indices.true) w.in_ok-match_span.ensures.claims c.loop-guard.invariant.leads;
        within = omega (arith, w.in_ok-match_span.ensures.there);
      })
      | else-asks_indices w ↦ rw (w.ledger-is, w.named-is) (record {
        leads = span-skips a.state.now a.fact.now a.env.now a.guards.now c.loop-guard.guard-index c.guard-item.result _ _ _ _ (omega arith) c.guard-item.is (sym c.asks_indices.ensures ∙ w.if-asks_indices.false) c.loop-guard.invariant.leads;
        within = c.loop-guard.invariant.within;
      })
    ]

pub returns : goal.returns
returns c =
    let a = c.args in
    spans-end a.state.now a.fact.now a.env.now a.guards.now c.loop-guard.guard-index a.spans.now c.loop-guard.named _ _ _ _ (omega arith) c.loop-guard.invariant.within c.needed.ensures c.loop-guard.invariant.leads
