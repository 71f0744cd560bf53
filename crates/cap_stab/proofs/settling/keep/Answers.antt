use Rattle.std.proofs.Common.{◌≡◌, ap}
use Rattle.std.proofs.lemmas.Result.{err_from_is_err_and}
use Rattle.cap_prog.specs.Views.{region_view}
use Rattle.cap_goal_spec.specs.States.{PlainFact}
use Rattle.cap_rules_steps.proofs.Walking.{wide_claims}
use Rattle.cap_stab.proofs.Kept.{keep_fails, keep_made}
use Rattle.cap_stab.proofs.settling.keep.Goals as goal

pub returns-in_err-same : goal.returns-in_err-same
returns-in_err-same c =
    let t : c.fact.inside.state ≡ c.args.fact.now.state = ap (λ (f : PlainFact). f.state) c.fact.view_is in
    let p = err_from_is_err_and c.from_residual-in_err-same.result c.from_residual-in_err-same.ensures.1 in
    let h = rw (c.in_ok-later.ensures, t) at c.in_err-same.ensures.exact in
    rw (p.1, p.2) (wide_claims _ _ _ _ h)

pub returns-in_err-prove_kept : goal.returns-in_err-prove_kept
returns-in_err-prove_kept c =
    let a = c.args in
    let t : c.fact.inside.state ≡ a.fact.now.state = ap (λ (f : PlainFact). f.state) c.fact.view_is in
    let p = err_from_is_err_and c.from_residual-in_err-prove_kept.result c.from_residual-in_err-prove_kept.ensures.1 in
    let h = rw (c.in_ok-later.ensures, t) at c.in_ok-same.ensures.exact in
    rw (p.1, p.2) (keep_fails (region_view a.region.now) a.state.now a.number a.fact.now c.in_ok-same.same _ _ _ h.0 h.1 c.in_err-prove_kept.ensures)

pub returns : goal.returns
returns c =
    let a = c.args in
    let t : c.fact.inside.state ≡ a.fact.now.state = ap (λ (f : PlainFact). f.state) c.fact.view_is in
    let h = rw (c.in_ok-later.ensures, t) at c.in_ok-same.ensures.exact in
    let e = rw (c.in_ok-with_state.ensures, t) at c.in_ok-put_facts.ensures in
    rw e (keep_made (region_view a.region.now) a.state.now a.number a.fact.now c.in_ok-same.same _ _ h.0 h.1 c.in_ok-prove_kept.ensures)
