use Rattle.std.proofs.Common.{◌≡◌, ap}
use Rattle.std.proofs.lemmas.Result.{err_from_is_err_and}
use Rattle.cap_rules_steps.specs.cap_goal_spec.States.{PlainFact}
use Rattle.cap_rules_steps.proofs.Walking.{wide, then_narrow, then_made, unmade, done_as}
use Rattle.cap_open_acts.proofs.Marks.{sort-facts}
use Rattle.cap_open_acts.proofs.marking.loosen.Goals as goal

pub returns-in_err-of : goal.returns-in_err-of
returns-in_err-of c =
    let t : c.opened.inside.region ≡ c.args.rival.now.opened.now.region = ap (λ (f : PlainFact). f.region) c.opened.view_is in
    let u : c.fact.inside.region ≡ c.args.rival.now.fact.now.region = ap (λ (f : PlainFact). f.region) c.fact.view_is in
    let p = err_from_is_err_and c.from_residual.result c.from_residual.ensures.1 in
    let h = rw (t, u) at c.in_err-of.ensures.exact in
    rw (p.1, p.2) (wide _ _ _ h)

pub returns-in_err-later : goal.returns-in_err-later
returns-in_err-later c =
    let t : c.opened.inside.region ≡ c.args.rival.now.opened.now.region = ap (λ (f : PlainFact). f.region) c.opened.view_is in
    let u : c.fact.inside.region ≡ c.args.rival.now.fact.now.region = ap (λ (f : PlainFact). f.region) c.fact.view_is in
    let p = err_from_is_err_and c.from_residual-in_err-later.result c.from_residual-in_err-later.ensures.1 in
    let h = rw (t, u) at c.in_ok-of.ensures.exact in
    rw (p.1, p.2) (then_narrow _ _ _ h.0 (unmade _ _ _ c.in_err-later.ensures.makes))

pub returns : goal.returns
returns c =
    let t : c.opened.inside.region ≡ c.args.rival.now.opened.now.region = ap (λ (f : PlainFact). f.region) c.opened.view_is in
    let u : c.fact.inside.region ≡ c.args.rival.now.fact.now.region = ap (λ (f : PlainFact). f.region) c.fact.view_is in
    let h = rw (t, u) at c.in_ok-of.ensures.exact in
    let e = rw (c.in_ok-loosened.ensures, c.in_ok-later.ensures.fresh, sort-facts _ _ _ c.in_ok-later.ensures.makes) at c.in_ok-put_fact.ensures in
    then_narrow _ _ _ h.0 (then_made _ _ _ _ c.in_ok-later.ensures.makes (done_as _ _ e))
