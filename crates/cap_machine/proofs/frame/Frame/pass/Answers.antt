use Rattle.std.proofs.Common.{◌∙◌, ap, sym, ◌≡◌}
use Rattle.cap_prog.specs.Views.{program_view, block_view}
use Rattle.cap_machine.specs.Machine.{with_rest}
use Rattle.cap_machine.specs.Places.{block_at}
use Rattle.cap_machine.specs.View.{body_of, body_in, frame_view}
use Rattle.cap_machine.proofs.FrameLemmas.{pass_rest}
use Rattle.cap_machine.proofs.frame.Frame.pass.Goals as goal

pub returns-clause-passed : goal.returns-clause-passed
returns-clause-passed c =
    let e : block_view c.function.result.now.body.items ≡ body_in (program_view c.args.program.now) c.args.self.now = sym (ap body_of c.function.ensures) in
    let x = c.block_at.ensures ∙ (ap (λ d. block_at (block_view d) c.deref-2.result.now) c.deref.ensures.value ∙ ap (block_at (block_view c.function.result.now.body.items)) c.deref-2.ensures.value) in
    let y = rw c.deref-3.ensures.value at c.settle-self.ensures.rest in
    ap (with_rest (frame_view (program_view c.args.program.now) c.args.self.now))
    (pass_rest _ (block_view c.function.result.now.body.items) (block_view c.block_at.result.now) c.args.self.now.levels.items c.settle-self.new.levels.items c.args.self.now.next c.settle-self.result c.past-next.result e x c.requires.settled c.past-next.ensures y)
