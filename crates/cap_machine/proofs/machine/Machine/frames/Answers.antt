use Rattle.std.proofs.Common.{◌∙◌, ap, Some, None}
use Rattle.std.specs.Prelude.{slice_get}
use Rattle.cap_machine.specs.View.{thread_view}
use Rattle.cap_machine.proofs.ReadyLemmas.{frames_show}
use Rattle.cap_machine.proofs.machine.Machine.frames.Goals as goal

pub returns-in-None : goal.returns-in-None
returns-in-None c p = frames_show p c.args.self.now c.args.thread None (c.in-None.ensures ∙ ap (λ ts. slice_get ts c.args.thread) c.deref.ensures.value)

pub returns-in-Some : goal.returns-in-Some
returns-in-Some c p =
    ap (thread_view p) c.deref-in-Some.ensures.value
    ∙ frames_show p c.args.self.now c.args.thread (Some c.in-Some.frames.now) (c.in-Some.ensures ∙ ap (λ ts. slice_get ts c.args.thread) c.deref.ensures.value)
