use Rattle.std.proofs.lemmas.Result.{err_from_is_err_and}
use Rattle.cap_rules_steps.proofs.Judges.{told-error}
use Rattle.cap_rules_steps.proofs.Walking.{claims_fail}
use Rattle.cap_offer.proofs.Spans.{fails-before, lists-told}
use Rattle.cap_offer.proofs.shifting.turn_of.Goals as goal

pub returns-in_err-turn-clause-lists : goal.returns-in_err-turn-clause-lists
returns-in_err-turn-clause-lists c =
    let p = err_from_is_err_and c.from_residual.result c.from_residual.ensures.1 in
    let h = rw c.new-ledger.ensures at c.in_err-turn.ensures in
    rw (p.1, p.2) (fails-before _ _ _ (told-error _ _ _ (claims_fail _ _ _ _ _ h)))

pub returns-in_err-but_spans-clause-lists : goal.returns-in_err-but_spans-clause-lists
returns-in_err-but_spans-clause-lists c =
    let p = err_from_is_err_and c.from_residual-in_err-but_spans.result c.from_residual-in_err-but_spans.ensures.1 in
    let h = rw c.new-all.ensures at c.in_err-but_spans.ensures in
    rw (p.1, p.2) (fails-before _ _ _ (told-error _ _ _ h))

pub returns-clause-lists : goal.returns-clause-lists
returns-clause-lists c =
    let h = rw c.new-ledger.ensures at c.in_ok-turn.ensures in
    let k = rw c.new-all.ensures at c.in_ok-but_spans.ensures in
    rw c.into_lists.ensures (lists-told _ _ _ _ _ _ h k)
