use Rattle.std.proofs.Common.{◌∙◌, ap, sym, Some, None, subst}
use Rattle.std.specs.Prelude.{slice_get}
use Rattle.cap_machine.specs.Machine.{top_frame}
use Rattle.cap_machine.specs.View.{thread_view, ArePlaced}
use Rattle.cap_machine.proofs.ReadyLemmas.{running_shows, placed_at}
use Rattle.cap_machine.proofs.machine.Machine.top.Goals as goal

pub returns-in-None-clause-shows : goal.returns-in-None-clause-shows
returns-in-None-clause-shows c p = running_shows p c.args.self.now c.args.thread None (c.in-None.ensures ∙ ap (λ ts. slice_get ts c.args.thread) c.deref.ensures.value)

pub returns-in-Some-clause-shows : goal.returns-in-Some-clause-shows
returns-in-Some-clause-shows c p =
    c.top.ensures.shows p
    ∙ (ap (λ fs. top_frame (Some (thread_view p fs))) c.deref-in-Some.ensures.value
    ∙ running_shows p c.args.self.now c.args.thread (Some c.in-Some.frames.now) (c.in-Some.ensures ∙ ap (λ ts. slice_get ts c.args.thread) c.deref.ensures.value))

pub returns-in-Some-clause-placed : goal.returns-in-Some-clause-placed
returns-in-Some-clause-placed c p h =
    let k = placed_at p c.args.self.now c.args.thread c.in-Some.frames.now (c.in-Some.ensures ∙ ap (λ ts. slice_get ts c.args.thread) c.deref.ensures.value) h in
    c.top.ensures.placed p (subst (ArePlaced p) (sym c.deref-in-Some.ensures.value) k)
