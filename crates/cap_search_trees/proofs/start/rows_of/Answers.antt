use Rattle.std.proofs.Common.{◌<◌, ◌≤◌, length, arith}
use Rattle.std.proofs.lemmas.Result.{err_from_is_err_and}
use Rattle.cap_search_trees.proofs.Claims.{claim-stops, claim-goes-on, claims-end, row-made, rows-end}
use Rattle.cap_search_trees.proofs.start.rows_of.Goals as goal

pub returns-in_err-of : goal.returns-in_err-of
returns-in_err-of c =
    let i = c.loop-claim.claim-index in
    let h : i < length c.args.claims.now = omega arith in
    let p = err_from_is_err_and c.from_residual.result c.from_residual.ensures.1 in
    rw (p.1, p.2) (claim-stops c.args.claims.now i c.claim-item.result _ h c.claim-item.is c.in_err-of.ensures.exact c.loop-claim.invariant.steps)

pub loop-claim-preserved : goal.loop-claim-preserved
loop-claim-preserved c =
    let i = c.loop-claim.claim-index in
    let cs = c.args.claims.now in
    let h : i < length cs = omega arith in
    let made = c.in_ok-of.ensures.exact in
    record {
      rows = row-made cs i c.claim-item.result c.in_ok-of.field-0 c.loop-claim.rows.items c.push.new.self.items h c.claim-item.is made.1 c.in_ok-push.ensures.items c.loop-claim.invariant.rows;
      steps = claim-goes-on cs i c.claim-item.result h c.claim-item.is made.0 c.loop-claim.invariant.steps;
    }

pub returns : goal.returns
returns c =
    let i = c.loop-claim.claim-index in
    let cs = c.args.claims.now in
    let h : length cs ≤ i = omega arith in
    (claims-end cs i h c.loop-claim.invariant.steps, rows-end cs i c.loop-claim.rows.items h c.loop-claim.invariant.rows)
