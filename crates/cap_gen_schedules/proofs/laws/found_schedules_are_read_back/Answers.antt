use Rattle.cap_gen_schedules.specs.Laws.{drawn_schedule}
use Rattle.cap_gen_schedules.proofs.laws.found_schedules_are_read_back.Goals as goal

pub returns : goal.returns
returns c p count g es found =
    c.written_schedules_are_read_back.ensures (drawn_schedule es)
    (c.found_schedules_are_within_limits.ensures p count g es found)
