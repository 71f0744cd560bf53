use Rattle.std.proofs.Common.{◌≡◌, ◌<◌, ◌≤◌, length, get_or, arith}
use Rattle.std.proofs.lemmas.List.{length-map}
use Rattle.std.proofs.lemmas.Result.{err_from_is_err_and}
use Rattle.cap_rules.specs.Closing.{rivals}
use Rattle.cap_owners_passes.specs.Views.{facts_lent}
use Rattle.cap_owners_passes.proofs.Marks.{marks-first, marks-next, marks-stop, marks-end, fact-lent}
use Rattle.cap_owners_passes.proofs.statement.mark_values.Goals as goal

pub loop-number-init : goal.loop-number-init
loop-number-init c =
    rw c.new-values.ensures (marks-first c.args.walk.now (rivals c.args.state.now) c.args.marks.now (facts_lent c.in_ok-rivals.rivals.items) c.in_ok-rivals.ensures)

pub returns-in_err-push_mark : goal.returns-in_err-push_mark
returns-in_err-push_mark c =
    let p = err_from_is_err_and c.from_residual-in_err-push_mark.result c.from_residual-in_err-push_mark.ensures.1 in
    let i = c.loop-number.number in
    let fs = c.in_ok-rivals.rivals.items in
    let f = c.index.result.now in
    let n : i < length fs = omega arith in
    let h : i < length (facts_lent fs) = rw (length-map fs (λ f. f.now)) n in
    let k : i < length c.args.marks.now = omega arith in
    rw (p.1, p.2) (marks-stop c.args.walk.now (facts_lent fs) c.args.marks.now i f.now c.index-marks-number.result c.loop-number.values _ _ _ _ h (fact-lent fs i f n c.index.ensures) k c.index-marks-number.is c.in_err-push_mark.ensures c.loop-number.invariant)

pub loop-number-preserved : goal.loop-number-preserved
loop-number-preserved c =
    let i = c.loop-number.number in
    let fs = c.in_ok-rivals.rivals.items in
    let f = c.index.result.now in
    let n : i < length fs = omega arith in
    let h : i < length (facts_lent fs) = rw (length-map fs (λ f. f.now)) n in
    let k : i < length c.args.marks.now = omega arith in
    marks-next c.args.walk.now (facts_lent fs) c.args.marks.now i f.now c.index-marks-number.result c.loop-number.values _ _ h (fact-lent fs i f n c.index.ensures) k c.index-marks-number.is c.in_ok-push_mark.ensures c.loop-number.invariant

pub returns : goal.returns
returns c =
    let h : length c.args.marks.now ≤ c.loop-number.number = omega arith in
    marks-end c.args.walk.now (facts_lent c.in_ok-rivals.rivals.items) c.args.marks.now c.loop-number.number c.loop-number.values _ h c.loop-number.invariant
