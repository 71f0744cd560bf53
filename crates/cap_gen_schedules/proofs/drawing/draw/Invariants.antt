use Rattle.cap_prog.specs.Views.{program_view}
use Rattle.cap_gen_schedules.specs.Drawn.{draw_one}
use Rattle.cap_gen_schedules.proofs.Schedules.{Draws}
use Rattle.cap_gen_schedules.proofs.drawing.draw.Given as goal

abbrev pub invariant-loop : goal.invariant-loop
invariant-loop l =
    Draws (program_view l.program) (draw_one (program_view l.program) l.fn.words) l.machine l.words
    l.entries.items l.counter
