use Rattle.std.proofs.Common.{ap}
use Rattle.std.proofs.lemmas.Result.{err_from_is_err_and}
use Rattle.cap_rules_steps.proofs.Walking.{then_made, unmade}
use Rattle.std.proofs.Common.{◌≡◌}
use Rattle.cap_rules_steps.specs.cap_goal_spec.States.{PlainFact}
use Rattle.cap_open_enter.proofs.entering.with_case.Goals as goal

pub returns-in_err-term : goal.returns-in_err-term
returns-in_err-term c =
    let p = err_from_is_err_and c.from_residual.result c.from_residual.ensures.1 in
    rw (p.1, p.2) (unmade _ _ _ c.in_err-term.ensures)

pub returns-in_err-with_comparison : goal.returns-in_err-with_comparison
returns-in_err-with_comparison c =
    let p = err_from_is_err_and c.from_residual-in_err-with_comparison.result c.from_residual-in_err-with_comparison.ensures.1 in
    let t : c.fact.inside.state ≡ c.args.fact.now.state = ap (λ (f : PlainFact). f.state) c.fact.view_is in
    let q' = rw t at c.in_err-with_comparison.ensures in
    rw (p.1, p.2) (then_made _ _ _ _ c.in_ok-term.ensures (unmade _ _ _ q'))

pub returns-in_err-rows : goal.returns-in_err-rows
returns-in_err-rows c =
    let p = err_from_is_err_and c.from_residual-in_err-rows.result c.from_residual-in_err-rows.ensures.1 in
    let t : c.fact.inside.state ≡ c.args.fact.now.state = ap (λ (f : PlainFact). f.state) c.fact.view_is in
    let q = rw t at c.in_ok-with_comparison.ensures in
    let r' = rw c.deref.ensures.value at c.in_err-rows.ensures in
    rw (p.1, p.2) (then_made _ _ _ _ c.in_ok-term.ensures (then_made _ _ _ _ q (unmade _ _ _ r')))

pub returns-in_err-with_rows : goal.returns-in_err-with_rows
returns-in_err-with_rows c =
    let p = err_from_is_err_and c.from_residual-in_err-with_rows.result c.from_residual-in_err-with_rows.ensures.1 in
    let t : c.fact.inside.state ≡ c.args.fact.now.state = ap (λ (f : PlainFact). f.state) c.fact.view_is in
    let q = rw t at c.in_ok-with_comparison.ensures in
    let r = rw c.deref.ensures.value at c.in_ok-rows.ensures in
    let m' = rw c.deref-2.ensures.value at c.in_err-with_rows.ensures in
    rw (p.1, p.2) (then_made _ _ _ _ c.in_ok-term.ensures (then_made _ _ _ _ q (then_made _ _ _ _ r (unmade _ _ _ m'))))

pub returns-in_err-with_env : goal.returns-in_err-with_env
returns-in_err-with_env c =
    let p = err_from_is_err_and c.from_residual-in_err-with_env.result c.from_residual-in_err-with_env.ensures.1 in
    let t : c.fact.inside.state ≡ c.args.fact.now.state = ap (λ (f : PlainFact). f.state) c.fact.view_is in
    let q = rw t at c.in_ok-with_comparison.ensures in
    let r = rw c.deref.ensures.value at c.in_ok-rows.ensures in
    let m = rw c.deref-2.ensures.value at c.in_ok-with_rows.ensures in
    rw (p.1, p.2) (then_made _ _ _ _ c.in_ok-term.ensures (then_made _ _ _ _ q (then_made _ _ _ _ r (then_made _ _ _ _ m c.in_err-with_env.ensures.makes))))

pub returns : goal.returns
returns c =
    let t : c.fact.inside.state ≡ c.args.fact.now.state = ap (λ (f : PlainFact). f.state) c.fact.view_is in
    let q = rw t at c.in_ok-with_comparison.ensures in
    let r = rw c.deref.ensures.value at c.in_ok-rows.ensures in
    let m = rw c.deref-2.ensures.value at c.in_ok-with_rows.ensures in
    then_made _ _ _ _ c.in_ok-term.ensures (then_made _ _ _ _ q (then_made _ _ _ _ r (then_made _ _ _ _ m c.in_ok-with_env.ensures.makes)))
