use Rattle.std.proofs.Common.{◌≤◌, min, length, arith}
use Rattle.cap_owners.proofs.Writing.{names-end}
use Rattle.cap_owners.proofs.account.push_names.Goals as goal

pub returns : goal.returns
returns c =
    let l : min (length c.args.names.now) (length c.args.values.now) ≤ c.loop-number.number = omega (arith, c.loop-number-test.false, c.min-number-end.ensures, c.len.ensures) in
    names-end c.args.names.now c.args.values.now c.loop-number.number c.loop-number.text.items _ l c.loop-number.invariant
