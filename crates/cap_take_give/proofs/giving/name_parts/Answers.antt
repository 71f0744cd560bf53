use Rattle.std.proofs.Common.{arith, ◌≤◌, ◌<◌, length, get_or}
use Rattle.std.proofs.lemmas.Result.{err_from_is_err_and}
use Rattle.cap_rules_steps.proofs.Multiples.{no_part}
use Rattle.cap_rules_steps.proofs.Walking.{goes_on, fails_at, ends, done}
use Rattle.cap_take_give.proofs.Slots.{names-left, name-step, names_go, part-at}
use Rattle.cap_take_give.proofs.giving.name_parts.Goals as goal

pub returns-in_err-name_as : goal.returns-in_err-name_as
returns-in_err-name_as c =
    let p = err_from_is_err_and c.from_residual.result c.from_residual.ensures.1 in
    let e = c.args.env in
    let o = c.args.sort in
    let i = c.loop-part.part-index in
    let h : c.loop-part.part-index < length c.args.term.now.parts = rw (← c.parts-part-items.ensures.parts) (omega arith) in
    let m = rw c.parts-part-items.ensures.parts at c.in_err-name_as.ensures in
    rw (p.1, p.2) (fails_at (names-left e o) (name-step e o) (names_go e o) c.loop-part.state c.args.term.now.parts i (get_or c.args.term.now.parts i no_part) _ _ h (part-at c.args.term.now.parts i no_part h) m c.loop-part.invariant)

pub loop-part-preserved : goal.loop-part-preserved
loop-part-preserved c =
    let e = c.args.env in
    let o = c.args.sort in
    let i = c.loop-part.part-index in
    let h : c.loop-part.part-index < length c.args.term.now.parts = rw (← c.parts-part-items.ensures.parts) (omega arith) in
    let m = rw c.parts-part-items.ensures.parts at c.in_ok-name_as.ensures in
    goes_on (names-left e o) (name-step e o) (names_go e o) c.loop-part.state c.name_as.new.state c.args.term.now.parts i (get_or c.args.term.now.parts i no_part) _ h (part-at c.args.term.now.parts i no_part h) m c.loop-part.invariant

pub returns : goal.returns
returns c =
    let h : length c.args.term.now.parts ≤ c.loop-part.part-index = rw (← c.parts-part-items.ensures.parts) (omega arith) in
    ends (names-left c.args.env c.args.sort) c.loop-part.state c.args.term.now.parts c.loop-part.part-index _ _ h (done _) c.loop-part.invariant
