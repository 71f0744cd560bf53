use Rattle.std.proofs.Common.{◌≡◌, ◌+◌, ◌-◌, ◌∙◌, ap, length, arith}
use mir.Syntax.{w128}
use Rattle.std.proofs.lemmas.Int.{to_z-of_z}
use Rattle.cap_prog.specs.Views.{program_view}
use Rattle.cap_machine.specs.Machine.{with_value}
use Rattle.cap_machine.specs.View.{IsPlaced}
use Rattle.cap_machine.specs.Changes.{passed}
use Rattle.cap_machine.proofs.Lists.{all_set}
use Rattle.cap_machine.proofs.ThreadLemmas.{top_changes}
use Rattle.cap_machine.proofs.thread.assign.Goals as goal

pub returns-clause-assigned : goal.returns-clause-assigned
returns-clause-assigned c =
    let e : (c.len-top.result - 1) + 1 ≡ length c.args.frames.now.items = omega (arith, c.requires.some) in
    let s = rw (to_z-of_z w128 _ c.ranges.value) at (c.set.ensures.set (program_view c.args.program.now)) in
    top_changes (program_view c.args.program.now) _ _ _ _ (λ f. with_value (passed f) c.args.variable c.args.value) e c.index_mut-frame.ensures.value (s ∙ ap (λ f. with_value f c.args.variable c.args.value) c.pass.ensures.passed)

pub returns-clause-placed : goal.returns-clause-placed
returns-clause-placed c = all_set (IsPlaced (program_view c.args.program.now)) c.args.frames.now.items (c.len-top.result - 1) c.set.new.self c.requires.placed (c.set.ensures.placed (program_view c.args.program.now) c.pass.ensures.placed)
