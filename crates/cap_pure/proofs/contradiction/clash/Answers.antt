use Rattle.std.proofs.Common.{◌≡◌, true, false, refl, arith, nat_lt, ap, map}
use Rattle.cap_goal.specs.Views.{goal_view}
use Rattle.std.proofs.lemmas.Bool.Decides.{nat_tests}
use Rattle.std.proofs.lemmas.Result.{err_from_is_err_and}
use Rattle.cap_rules.specs.Attempts.{need}
use Rattle.cap_rules_steps.specs.declared.error.RuleError.TheVariants.{NotApplicable}
use Rattle.cap_rules_steps.proofs.Walking.{needed, unneeded, made_claims, unmade_claims, claims_value, claims_no_value, weaker, done_as}
use Rattle.cap_pure.proofs.contradiction.clash.Goals as goal

pub returns-then-first-second : goal.returns-then-first-second
returns-then-first-second c =
    let e : nat_lt c.args.first c.args.second ≡ false = grind (arith, nat_tests, c.if-first-second.true) in
    unmade_claims NotApplicable (need (nat_lt c.args.first c.args.second)) _ c.args.ledger.now (unneeded _ e)

pub returns-in_err-one : goal.returns-in_err-one
returns-in_err-one c =
    let p = err_from_is_err_and c.from_residual.result c.from_residual.ensures.1 in
    let e : nat_lt c.args.first c.args.second ≡ true = grind (arith, nat_tests, c.if-first-second.false) in
    rw (p.1, p.2) (made_claims _ _ _ _ _ _ (needed _ e) (unmade_claims _ _ _ _ c.in_err-one.ensures))

pub returns-in_err-other : goal.returns-in_err-other
returns-in_err-other c =
    let p = err_from_is_err_and c.from_residual-in_err-other.result c.from_residual-in_err-other.ensures.1 in
    let e : nat_lt c.args.first c.args.second ≡ true = grind (arith, nat_tests, c.if-first-second.false) in
    rw (p.1, p.2) (made_claims _ _ _ _ _ _ (needed _ e) (made_claims _ _ _ _ _ _ c.in_ok-one.ensures (unmade_claims _ _ _ _ c.in_err-other.ensures)))

pub returns-in_err-prove_equal : goal.returns-in_err-prove_equal
returns-in_err-prove_equal c =
    let p = err_from_is_err_and c.from_residual-in_err-prove_equal.result c.from_residual-in_err-prove_equal.ensures.1 in
    let e : nat_lt c.args.first c.args.second ≡ true = grind (arith, nat_tests, c.if-first-second.false) in
    rw (p.1, p.2) (made_claims _ _ _ _ _ _ (needed _ e) (made_claims _ _ _ _ _ _ c.in_ok-one.ensures (made_claims _ _ _ _ _ _ c.in_ok-other.ensures (claims_no_value _ _ _ _ _ _ refl c.in_err-prove_equal.ensures))))

pub returns : goal.returns
returns c =
    let e : nat_lt c.args.first c.args.second ≡ true = grind (arith, nat_tests, c.if-first-second.false) in
    made_claims _ _ _ _ _ _ (needed _ e) (made_claims _ _ _ _ _ _ c.in_ok-one.ensures (made_claims _ _ _ _ _ _ c.in_ok-other.ensures (claims_value _ _ _ _ _ _ _ c.in_ok-prove_equal.ensures (weaker _ _ _ (done_as _ _ (ap (map goal_view) c.new.ensures.items))))))
