use Rattle.std.proofs.Common.{◌≡◌, ◌+◌, ◌-◌, length, arith}
use Rattle.cap_prog.specs.Views.{program_view}
use Rattle.cap_machine.proofs.ThreadLemmas.{callee_on_top}
use Rattle.cap_machine.proofs.thread.call.Goals as goal

pub returns-clause-called : goal.returns-clause-called
returns-clause-called c =
    let e : (c.len-caller.result - 1) + 1 ≡ length c.args.frames.now.items = omega (arith, c.requires.some) in
    callee_on_top (program_view c.args.program.now) _ _ _ _ _ c.args.callee e c.in_ok-push.ensures.items c.index_mut.ensures.value c.pass.ensures.passed
