use Rattle.std.proofs.Common.{arith, rules}
use Rattle.std.proofs.lemmas.Result.{err_from_is_err_and}
use Rattle.cap_rules.specs.Making.{with_sort, with_sorts}
use Rattle.cap_rules_steps.proofs.Walking.{sorts_go, goes_on, fails_at, ends, done}
use Rattle.cap_rules_steps.proofs.changes.with_sorts.Goals as goal

pub returns-in_err-with_sort : goal.returns-in_err-with_sort
returns-in_err-with_sort c =
    let p = err_from_is_err_and c.from_residual.result c.from_residual.ensures.1 in
    rw (p.1, p.2) (fails_at with_sorts with_sort sorts_go c.loop-sort.state c.args.sorts.now c.loop-sort.sort-index _ _ _ (omega arith) (search rules) c.in_err-with_sort.ensures.makes c.loop-sort.invariant)

pub loop-sort-preserved : goal.loop-sort-preserved
loop-sort-preserved c =
    goes_on with_sorts with_sort sorts_go c.loop-sort.state c.with_sort.new.state c.args.sorts.now c.loop-sort.sort-index _ _ (omega arith) (search rules) c.in_ok-with_sort.ensures.makes c.loop-sort.invariant

pub returns : goal.returns
returns c = ends with_sorts c.loop-sort.state c.args.sorts.now c.loop-sort.sort-index _ _ (omega arith) (done _) c.loop-sort.invariant
