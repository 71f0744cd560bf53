use Rattle.std.proofs.Common.{arith, ap}
use Rattle.cap_rules.specs.cap_goal_spec.States.{PlainFact}
use Rattle.std.proofs.lemmas.Result.{err_from_is_err_and}
use Rattle.cap_rules_steps.proofs.Walking.{goes_on, fails_at, ends, done}
use Rattle.cap_rules_steps.proofs.Listing.{differing, differs, differing_goes}
use Rattle.cap_rules_steps.proofs.changes.with_differing.Goals as goal

pub returns-in_err-with_comparison : goal.returns-in_err-with_comparison
returns-in_err-with_comparison c =
    let p = err_from_is_err_and c.from_residual.result c.from_residual.ensures.1 in
    let e = ap (λ (f : PlainFact). f.region) c.fact.view_is in
    let m = rw e at c.in_err-with_comparison.ensures in
    rw (p.1, p.2) (fails_at (differing c.args.term.now) (differs c.args.term.now) (differing_goes c.args.term.now) c.loop-fact.state c.args.facts.now c.loop-fact.fact-index c.fact-item.result _ _ (omega arith) c.fact-item.is m c.loop-fact.invariant)

pub loop-fact-preserved : goal.loop-fact-preserved
loop-fact-preserved c =
    let e = ap (λ (f : PlainFact). f.region) c.fact.view_is in
    let m = rw e at c.in_ok-with_comparison.ensures in
    goes_on (differing c.args.term.now) (differs c.args.term.now) (differing_goes c.args.term.now) c.loop-fact.state c.with_comparison.new.state c.args.facts.now c.loop-fact.fact-index c.fact-item.result _ (omega arith) c.fact-item.is m c.loop-fact.invariant

pub returns : goal.returns
returns c = ends (differing c.args.term.now) c.loop-fact.state c.args.facts.now c.loop-fact.fact-index _ _ (omega arith) (done _) c.loop-fact.invariant
