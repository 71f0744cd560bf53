use Rattle.std.proofs.lemmas.Result.{err_from_is_err_and}
use Rattle.cap_rules_steps.proofs.Walking.{no_memory}
use Rattle.cap_take_holdings.proofs.Kept.{fact-differs, fact-clashes, fact-added, place-stands}
use Rattle.cap_take_holdings.proofs.facts.with_fact.Goals as goal

pub returns-in_err-equate : goal.returns-in_err-equate
returns-in_err-equate c =
    let p = err_from_is_err_and c.from_residual.result c.from_residual.ensures.1 in
    rw (p.1, p.2) (fact-differs c.args.state.now c.args.fact _ c.in_err-equate.ensures)

pub returns-in_err-contradict : goal.returns-in_err-contradict
returns-in_err-contradict c =
    let p = err_from_is_err_and c.from_residual-in_err-contradict.result c.from_residual-in_err-contradict.ensures.1 in
    let k = rw (c.clashes-clash.ensures, c.facts-2.ensures) at c.in_err-contradict.ensures in
    rw (p.1, p.2) (fact-clashes c.args.state.now _ c.args.fact _ c.in_ok-equate.ensures k)

pub remove_fact-requires : goal.remove_fact-requires
remove_fact-requires c =
    let q = rw c.facts.ensures at c.place_of-place.ensures in
    let k = rw (c.clashes-clash.ensures, c.facts-2.ensures) at c.in_ok-contradict.ensures in
    place-stands c.args.state.now _ _ c.args.fact _ q c.in_ok-equate.ensures k

pub returns-in_err-remove_fact : goal.returns-in_err-remove_fact
returns-in_err-remove_fact c =
    let p = err_from_is_err_and c.from_residual-in_err-remove_fact.result c.from_residual-in_err-remove_fact.ensures.1 in
    rw (p.1, p.2) (no_memory _)

pub returns : goal.returns
returns c =
    let q = rw c.facts.ensures at c.place_of-place.ensures in
    let k = rw (c.clashes-clash.ensures, c.facts-2.ensures) at c.in_ok-contradict.ensures in
    fact-added c.args.state.now _ _ _ c.args.fact c.place_of-place.result _ q c.in_ok-equate.ensures k c.in_ok-remove_fact.ensures c.push_fact.ensures
