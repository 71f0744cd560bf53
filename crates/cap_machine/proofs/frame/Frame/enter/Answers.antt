use Rattle.std.proofs.Common.{◌∙◌, ap, sym, ◌≡◌}
use Rattle.cap_prog.specs.Views.{program_view, block_view}
use Rattle.cap_machine.specs.Machine.{with_rest}
use Rattle.cap_machine.specs.View.{body_of, body_in, frame_view}
use Rattle.cap_machine.proofs.FrameLemmas.{enter_rest}
use Rattle.cap_machine.proofs.frame.Frame.enter.Goals as goal

pub returns-clause-entered : goal.returns-clause-entered
returns-clause-entered c =
    let e : block_view c.deref.result.now ≡ body_in (program_view c.args.program.now) c.args.self.now = ap block_view c.deref.ensures.value ∙ sym (ap body_of c.function.ensures) in
    let i = c.in_ok-push.ensures.items in
    ap (with_rest (frame_view (program_view c.args.program.now) c.args.self.now))
    (enter_rest _ (block_view c.deref.result.now) c.args.self.now.levels.items c.push.new.self.items c.settle-self.new.levels.items c.args.self.now.next c.settle-self.result c.args.side e c.requires.settled i c.settle-self.ensures.rest)
