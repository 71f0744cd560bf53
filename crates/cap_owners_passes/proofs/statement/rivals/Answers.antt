use Rattle.std.proofs.Common.{◌≡◌, ◌≤◌, length, ap, arith}
use Rattle.cap_owners_passes.proofs.Marks.{rivals-end}
use Rattle.cap_owners_passes.proofs.statement.rivals.Goals as goal

pub returns : goal.returns
returns c =
    let e : length c.opened-opened-items.result.now ≡ length c.args.state.now.opened = ap length c.opened-opened-items.ensures in
    rivals-end c.args.state.now c.loop-opened.opened-index _ (omega arith) c.loop-opened.invariant
