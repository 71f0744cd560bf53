use Rattle.std.proofs.Common.{arith, sym, ◌∙◌}
use Rattle.std.proofs.lemmas.Result.{err_from_is_err_and}
use Rattle.cap_open_moves.proofs.Indexed.{index-skips, index-next, index-fails, index-end}
use Rattle.cap_open_moves.proofs.turning.indices_known.Goals as goal
use Rattle.cap_open_moves.proofs.turning.indices_known.Goals.{then-asks_indices+in_ok-index, else-asks_indices}

pub returns-in_err-index : goal.returns-in_err-index
returns-in_err-index c =
    let a = c.args in
    let p = err_from_is_err_and c.from_residual.result c.from_residual.ensures.1 in
    rw (p.1, p.2) (index-fails a.env.now a.guards.now c.loop-guard.guard-index c.guard-item.result _ _ (omega arith) c.guard-item.is (sym c.asks_indices.ensures ∙ c.if-asks_indices.true) c.in_err-index.ensures c.loop-guard.invariant)

pub loop-guard-preserved : goal.loop-guard-preserved
loop-guard-preserved c =
    let a = c.args in
    elim c.if-asks_indices.branch [
      | then-asks_indices+in_ok-index w ↦ index-next a.env.now a.guards.now c.loop-guard.guard-index c.guard-item.result _ _ (omega arith) c.guard-item.is (sym c.asks_indices.ensures ∙ w.if-asks_indices.true) w.in_ok-index.ensures c.loop-guard.invariant
      | else-asks_indices w ↦ index-skips a.env.now a.guards.now c.loop-guard.guard-index c.guard-item.result _ (omega arith) c.guard-item.is (sym c.asks_indices.ensures ∙ w.if-asks_indices.false) c.loop-guard.invariant
    ]

pub returns : goal.returns
returns c = index-end c.args.env.now c.args.guards.now c.loop-guard.guard-index _ (omega arith) c.loop-guard.invariant
