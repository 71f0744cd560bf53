use Rattle.std.proofs.Common.{◌≡◌, List, ap, subst}
use Rattle.std.specs.Prelude.{Ok, Err}
use Rattle.std.proofs.lemmas.Result.{err_from_is_err_and}
use Rattle.cap_lin.specs.declared.row.Row.{Row}
use Rattle.cap_prog.specs.Views.{region_view}
use Rattle.cap_goal_spec.specs.States.{PlainFact}
use Rattle.cap_rules.specs.Resting.{prove_stable}
use Rattle.cap_rules_steps.specs.Walks.{Claims}
use Rattle.cap_stab.proofs.Settled.{settle_unnamed, settle_unproved, settle_unstable, settle_made}
use Rattle.cap_stab.proofs.settling.settle.Goals as goal

pub returns-in_err-named : goal.returns-in_err-named
returns-in_err-named c =
    let a = c.args in
    let p = err_from_is_err_and c.from_residual-in_err-named.result c.from_residual-in_err-named.ensures.1 in
    rw (p.1, p.2) (settle_unnamed (region_view a.region.now) a.state.now a.number a.fact.now a.list.now _ _ c.in_err-named.ensures)

pub returns-in_err-prove_at : goal.returns-in_err-prove_at
returns-in_err-prove_at c =
    let a = c.args in
    let t : c.fact.inside.state ≡ a.fact.now.state = ap (λ (f : PlainFact). f.state) c.fact.view_is in
    let p = err_from_is_err_and c.from_residual-in_err-prove_at.result c.from_residual-in_err-prove_at.ensures.1 in
    let h = rw (c.rows.ensures, t, c.deref.ensures.value) at c.in_err-prove_at.ensures in
    rw (p.1, p.2) (settle_unproved (region_view a.region.now) a.state.now a.number a.fact.now a.list.now c.in_ok-named.named.items _ _ _ c.in_ok-named.ensures h)

pub returns-in_err-prove_stable : goal.returns-in_err-prove_stable
returns-in_err-prove_stable c =
    let a = c.args in
    let t : c.fact.inside.state ≡ a.fact.now.state = ap (λ (f : PlainFact). f.state) c.fact.view_is in
    let p = err_from_is_err_and c.from_residual-in_err-prove_stable.result c.from_residual-in_err-prove_stable.ensures.1 in
    let h = rw (c.rows.ensures, t, c.deref.ensures.value) at c.in_ok-prove_at.ensures in
    let stable : List Row → Type 0 = λ named. Claims (Err c.in_err-prove_stable.field-0.0) c.prove_at.new.ledger c.prove_stable.new.ledger (prove_stable (region_view a.region.now) a.state.now a.fact.now named (region_view a.region.now).actions) in
    let k = subst stable c.deref-2.ensures.value c.in_err-prove_stable.ensures in
    rw (p.1, p.2) (settle_unstable (region_view a.region.now) a.state.now a.number a.fact.now a.list.now c.in_ok-named.named.items _ _ _ _ c.in_ok-named.ensures h k)

pub returns : goal.returns
returns c =
    let a = c.args in
    let t : c.fact.inside.state ≡ a.fact.now.state = ap (λ (f : PlainFact). f.state) c.fact.view_is in
    let h = rw (c.rows.ensures, t, c.deref.ensures.value) at c.in_ok-prove_at.ensures in
    let stable : List Row → Type 0 = λ named. Claims (Ok tt) c.prove_at.new.ledger c.prove_stable.new.ledger (prove_stable (region_view a.region.now) a.state.now a.fact.now named (region_view a.region.now).actions) in
    let k = subst stable c.deref-2.ensures.value c.in_ok-prove_stable.ensures in
    let m = rw c.deref-3.ensures.value at c.with_settled.ensures in
    settle_made (region_view a.region.now) a.state.now a.number a.fact.now a.list.now c.in_ok-named.named.items _ _ _ _ c.in_ok-named.ensures h k m
