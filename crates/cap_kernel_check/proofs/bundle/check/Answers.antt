use Rattle.std.proofs.Common.{◌≡◌, length, rules}
use Rattle.cap_prog.specs.Views.{program_view}
use Rattle.cap_kernel_check_steps.proofs.Checking.{concluded-checked, miscounted-checked}
use Rattle.cap_kernel_check.proofs.bundle.check.Goals as goal

pub returns-then-len : goal.returns-then-len
returns-then-len c =
    let h1 = c.len.ensures in let h2 = c.len-2.ensures in let h3 = c.if-len.true in
    miscounted-checked (program_view c.args.program.now) c.args.bundle.now.trees.items c.in_ok-starts.starts.items c.faulty_are_invalid.ensures c.in_ok-starts.ensures.all (search rules)

pub returns : goal.returns
returns c =
    let h1 = c.len.ensures in let h2 = c.len-2.ensures in let h3 = c.if-len.false in
    let same : length c.args.bundle.now.trees.items ≡ length c.in_ok-starts.starts.items = search rules in
    concluded-checked (program_view c.args.program.now) c.args.bundle.now.trees.items c.in_ok-starts.starts.items c.walk_all.result c.walks_tell.ensures c.faulty_are_invalid.ensures c.in_ok-starts.ensures.all same
    (rw (c.deref.ensures.value, c.deref-2.ensures.value) at c.walk_all.ensures)
