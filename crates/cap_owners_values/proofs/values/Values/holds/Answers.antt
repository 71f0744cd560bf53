use Rattle.std.proofs.Common.{rules}
use Rattle.std.proofs.lemmas.Int.{to_z-of_z}
use Rattle.std.proofs.lemmas.Result.{err_from_is_err_and}
use mir.Val.{SFits}
use mir.Syntax.{w128}
use Rattle.cap_owners_values.proofs.Sums.{holds_seen, holds_stops}
use Rattle.cap_owners_values.proofs.Tracing.{stops}
use Rattle.cap_owners_values.proofs.values.Values.holds.Goals as goal

pub returns-in_err-left : goal.returns-in_err-left
returns-in_err-left c =
    let p = err_from_is_err_and c.from_residual.result c.from_residual.ensures.1 in
    rw (p.1, p.2) (stops _ _ _ _ _ c.in_err-left.ensures)

pub returns-in_err-right : goal.returns-in_err-right
returns-in_err-right c =
    let p = err_from_is_err_and c.from_residual-in_err-right.result c.from_residual-in_err-right.ensures.1 in
    rw (p.1, p.2) (holds_stops _ c.args.self.now c.args.comparison.now _ c.in_ok-left.ensures c.in_err-right.ensures)

pub returns : goal.returns
returns c =
    let u : SFits w128 c.in_ok-left.left = search rules in
    let v : SFits w128 c.in_ok-right.right = search rules in
    holds_seen c.args.self.now c.args.comparison.now _ _ _ _ _ c.in_ok-left.ensures c.in_ok-right.ensures (to_z-of_z _ _ u) (to_z-of_z _ _ v) c.compares.ensures
