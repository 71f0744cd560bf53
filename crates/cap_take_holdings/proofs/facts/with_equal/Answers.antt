use Rattle.std.proofs.lemmas.Result.{err_from_is_err_and}
use Rattle.std.proofs.Common.{ap}
use Rattle.cap_rules_steps.specs.cap_goal_spec.States.{PlainFact}
use Rattle.cap_rules_steps.proofs.Walking.{then_made, unmade}
use Rattle.cap_take_holdings.proofs.facts.with_equal.Goals as goal

pub returns-in_err-with_equalities : goal.returns-in_err-with_equalities
returns-in_err-with_equalities c =
    let p = err_from_is_err_and c.from_residual.result c.from_residual.ensures.1 in
    let a = ap (λ (f : PlainFact). f.args) c.there.view_is in
    let b = ap (λ (f : PlainFact). f.args) c.fact.view_is in
    let k = rw (c.deref.ensures.value, c.deref-2.ensures.value, a, b) at c.in_err-with_equalities.ensures in
    rw (p.1, p.2) (unmade _ _ _ k)

pub returns : goal.returns
returns c =
    let a = ap (λ (f : PlainFact). f.args) c.there.view_is in
    let b = ap (λ (f : PlainFact). f.args) c.fact.view_is in
    let k = rw (c.deref.ensures.value, c.deref-2.ensures.value, a, b) at c.in_ok-with_equalities.ensures in
    let x = ap (λ (f : PlainFact). f.state) c.there.view_is in
    let y = ap (λ (f : PlainFact). f.state) c.fact.view_is in
    let m = rw (x, y) at c.with_comparison.ensures in
    then_made _ _ _ _ k m
