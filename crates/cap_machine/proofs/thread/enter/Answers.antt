use Rattle.std.proofs.Common.{◌≡◌, ◌+◌, ◌-◌, length, arith}
use Rattle.std.proofs.lemmas.Result.{on_ok_weaker, on_err_weaker}
use Rattle.cap_prog.specs.Views.{program_view}
use Rattle.cap_machine.specs.Changes.{entered}
use Rattle.cap_machine.proofs.ThreadLemmas.{top_changes, top_same}
use Rattle.cap_machine.proofs.thread.enter.Goals as goal

pub returns-clause-entered : goal.returns-clause-entered
returns-clause-entered c =
    let e : (c.len-top.result - 1) + 1 ≡ length c.args.frames.now.items = omega (arith, c.requires.some) in
    on_ok_weaker c.enter.result (λ v. top_changes (program_view c.args.program.now) c.args.frames.now.items (c.len-top.result - 1) c.index_mut.result.now c.enter.new.self (entered c.args.side) e c.index_mut.ensures.value v) c.enter.ensures.entered

pub returns-clause-same : goal.returns-clause-same
returns-clause-same c =
    let e : (c.len-top.result - 1) + 1 ≡ length c.args.frames.now.items = omega (arith, c.requires.some) in
    on_err_weaker c.enter.result (λ v. top_same (program_view c.args.program.now) c.args.frames.now.items (c.len-top.result - 1) c.index_mut.result.now c.enter.new.self e c.index_mut.ensures.value v) c.enter.ensures.same
