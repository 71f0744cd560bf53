use Rattle.std.proofs.Common.{◌∙◌, ap, subst, ℕ, ◌<◌}
use Rattle.std.specs.Global.{Vec}
use Rattle.cap_prog.specs.Views.{program_view}
use Rattle.cap_machine.specs.View.{configuration}
use Rattle.cap_gen_schedules.proofs.Alive.{so-far-alive, so-far-ended, is-there, is-missing}
use Rattle.cap_gen_schedules.proofs.drawing.list_alive.Goals as goal
use Rattle.cap_gen_schedules.proofs.drawing.list_alive.Goals.{then-is_some+in_ok-push, else-is_some}

pub loop-thread-preserved : goal.loop-thread-preserved
loop-thread-preserved c =
    let p = program_view c.args.program.now in
    let P : ℕ → Type 0 = λ n. c.loop-thread.thread < n in
    let l = subst P (c.threads-thread-end.ensures p c.requires.room) c.loop-thread-test.true in
    elim c.if-is_some.branch [
      | then-is_some+in_ok-push w ↦
          so-far-alive c.loop-thread.threads.items c.if-is_some.threads.items
          (configuration p c.args.machine.now) c.loop-thread.thread c.loop-thread.invariant l
          (λ r. is-there c.ahead.result c.is_some.result c.is_some.ensures w.if-is_some.true
          (c.ahead.ensures.none.1 r))
          (ap (λ (v : Vec ℕ). v.items) w.threads-is ∙ w.in_ok-push.ensures.items)
      | else-is_some w ↦
          so-far-ended c.loop-thread.threads.items c.if-is_some.threads.items
          (configuration p c.args.machine.now) c.loop-thread.thread c.loop-thread.invariant l
          (c.ahead.ensures.none.0
          (is-missing c.ahead.result c.is_some.result c.is_some.ensures w.if-is_some.false))
          (ap (λ (v : Vec ℕ). v.items) w.threads-is)
    ]
