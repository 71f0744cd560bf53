use Rattle.std.proofs.Common.{arith, ◌≤◌, ◌<◌, length}
use Rattle.cap_take_items.proofs.Members.{member-there, member-lacking}
use Rattle.cap_take_guards.proofs.guards.piece_at.Goals as goal

pub returns-then-number-guards : goal.returns-then-number-guards
returns-then-number-guards c =
    let h : length c.args.state.now.guards ≤ c.args.number = rw (← c.guards.ensures) (omega arith) in
    member-lacking c.args.state.now.guards c.args.number h

pub returns : goal.returns
returns c =
    let h : c.args.number < length c.args.state.now.guards = rw (← c.guards.ensures) (omega arith) in
    member-there c.args.state.now.guards c.args.number c.index-guards-number.result h (rw (← c.guards-2.ensures) c.index-guards-number.is)
