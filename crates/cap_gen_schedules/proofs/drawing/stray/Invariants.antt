use Rattle.cap_prog.specs.Views.{program_view}
use Rattle.cap_gen_schedules.specs.Drawn.{seeded, first_fault}
use Rattle.cap_gen_schedules.proofs.Schedules.{IsLeft}
use Rattle.cap_gen_schedules.proofs.drawing.stray.Given as goal

abbrev pub invariant-loop : goal.invariant-loop
invariant-loop l =
    IsLeft (program_view l.program) l.count
    (first_fault (program_view l.program) l.count (seeded l.number)) l.words l.counter
