use Rattle.std.proofs.Common.{◌≡◌, ap}
use Rattle.std.proofs.lemmas.Result.{err_from_is_err_and}
use Rattle.cap_goal_spec.specs.States.{PlainFact}
use Rattle.cap_rules_steps.proofs.Walking.{then_made, unmade}
use Rattle.cap_open_moves.proofs.picking.pick.Goals as goal

pub returns-in_err-fact : goal.returns-in_err-fact
returns-in_err-fact c =
    let p = err_from_is_err_and c.from_residual.result c.from_residual.ensures.1 in
    let h = rw c.opened.ensures at c.in_err-fact.ensures in
    rw (p.1, p.2) (unmade _ _ _ h)

pub returns-in_err-names : goal.returns-in_err-names
returns-in_err-names c =
    let p = err_from_is_err_and c.from_residual-in_err-names.result c.from_residual-in_err-names.ensures.1 in
    let k : c.fact.inside.kind ≡ c.in_ok-fact.fact.now.kind = ap (λ (g : PlainFact). g.kind) c.fact.view_is in
    let f = rw c.opened.ensures at c.in_ok-fact.ensures in
    let r = rw k at c.in_ok-region.ensures in
    rw (p.1, p.2) (then_made _ _ _ _ f (then_made _ _ _ _ r (then_made _ _ _ _ c.in_ok-chosen.ensures (then_made _ _ _ _ c.in_ok-need_move.ensures (unmade _ _ _ c.in_err-names.ensures)))))

pub returns : goal.returns
returns c =
    let k : c.fact.inside.kind ≡ c.in_ok-fact.fact.now.kind = ap (λ (g : PlainFact). g.kind) c.fact.view_is in
    let f = rw c.opened.ensures at c.in_ok-fact.ensures in
    let r = rw k at c.in_ok-region.ensures in
    then_made _ _ _ _ f (then_made _ _ _ _ r (then_made _ _ _ _ c.in_ok-chosen.ensures (then_made _ _ _ _ c.in_ok-need_move.ensures (then_made _ _ _ _ c.in_ok-names.ensures c.picked.ensures))))
