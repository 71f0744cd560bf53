use Rattle.std.proofs.Common.{◌≡◌, ◌+◌, ◌-◌, length, arith}
use Rattle.cap_prog.specs.Views.{program_view}
use Rattle.cap_machine.specs.Changes.{passed}
use Rattle.cap_machine.proofs.ThreadLemmas.{top_changes}
use Rattle.cap_machine.proofs.thread.pass.Goals as goal

pub returns-clause-passed : goal.returns-clause-passed
returns-clause-passed c =
    let e : (c.len-top.result - 1) + 1 ≡ length c.args.frames.now.items = omega (arith, c.requires.some) in
    top_changes (program_view c.args.program.now) _ _ _ _ passed e c.index_mut.ensures.value c.pass.ensures.passed
