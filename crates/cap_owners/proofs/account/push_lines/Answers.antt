use Rattle.std.proofs.Common.{◌≤◌, min, length, arith}
use Rattle.cap_prog.specs.Views.{program_view}
use Rattle.cap_owners.proofs.Writing.{lines-end}
use Rattle.cap_owners.proofs.account.push_lines.Goals as goal

pub returns : goal.returns
returns c =
    let l : min (length c.args.frames.now) (length c.args.tracked.now) ≤ c.loop-number.number = omega (arith, c.loop-number-test.false, c.min-number-end.ensures) in
    lines-end (program_view c.args.program.now) c.args.thread c.loop-number.number c.args.frames.now c.args.tracked.now c.loop-number.text.items _ l c.loop-number.invariant
