use Rattle.cap_prog.specs.Views.{program_view}
use Rattle.cap_machine.specs.View.{configuration}
use Rattle.cap_gen_schedules.proofs.Alive.{IsSoFar}
use Rattle.cap_gen_schedules.proofs.drawing.list_alive.Given as goal

abbrev pub invariant-loop-thread : goal.invariant-loop-thread
invariant-loop-thread l =
    IsSoFar l.threads.items (configuration (program_view l.program) l.machine) l.thread
