use Rattle.std.proofs.Common.{arith}
use Rattle.std.proofs.lemmas.Result.{err_from_is_err_and}
use Rattle.cap_rules.specs.Attempts.{each, found}
use Rattle.cap_rules_steps.proofs.Walking.{done}
use Rattle.cap_rules_steps.proofs.Listing.{gather-first, gather-next, gather-fail, gather-end}
use Rattle.cap_take_facts.proofs.Lists.{each-gathers}
use Rattle.cap_take_facts.proofs.stated.bound_terms.Goals as goal

pub loop-name-init : goal.loop-name-init
loop-name-init c = rw c.new-terms.ensures.items (gather-first (each found) c.args.names.now)

pub returns-in_err-bound_term : goal.returns-in_err-bound_term
returns-in_err-bound_term c =
    let p = err_from_is_err_and c.from_residual.result c.from_residual.ensures.1 in
    rw (p.1, p.2) (gather-fail (each found) found (each-gathers found) c.args.names.now c.loop-name.name-index c.name-item.result c.loop-name.terms.items _ _ (omega arith) c.name-item.is c.in_err-bound_term.ensures c.loop-name.invariant)

pub loop-name-preserved : goal.loop-name-preserved
loop-name-preserved c = rw c.in_ok-push.ensures.items (gather-next (each found) found (each-gathers found) c.args.names.now c.loop-name.name-index c.name-item.result _ c.loop-name.terms.items _ (omega arith) c.name-item.is c.in_ok-bound_term.ensures c.loop-name.invariant)

pub returns : goal.returns
returns c = gather-end (each found) c.args.names.now c.loop-name.name-index c.loop-name.terms.items _ (omega arith) (done _) c.loop-name.invariant
