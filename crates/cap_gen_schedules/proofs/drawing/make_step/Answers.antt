use Rattle.std.proofs.Common.{sym}
use Rattle.cap_prog.specs.Views.{program_view}
use Rattle.cap_gen_schedules.proofs.Turns.{step-goes, step-continues}
use Rattle.cap_gen_schedules.proofs.drawing.make_step.Goals as goal

pub returns-else-is_fault-clause-takes : goal.returns-else-is_fault-clause-takes
returns-else-is_fault-clause-takes c =
    step-goes (program_view c.args.program.now) c.args.entry c.args.machine.now c.step.new.self
    c.in-Ok.event c.args.entries.now.items c.push.new.self.items c.in-Ok.ensures.steps
    (sym c.if-is_fault.ensures) c.in_ok-push-in-Ok.ensures.items

pub returns-else-is_fault-clause-continues : goal.returns-else-is_fault-clause-continues
returns-else-is_fault-clause-continues c =
    step-continues (program_view c.args.program.now) c.args.entry c.args.machine.now
    c.step.new.self c.in-Ok.event c.in-Ok.ensures.steps (sym c.if-is_fault.ensures)
