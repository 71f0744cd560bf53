use Rattle.std.proofs.Common.{length, map, ap}
use Rattle.std.specs.List.{range_with_len}
use Rattle.cap_prog.specs.Views.{program_view}
use Rattle.cap_goal_spec.specs.Roots.{region_unit, function_unit}
use Rattle.cap_owners_places.proofs.Gathering.{all-begins}
use Rattle.cap_owners_places.proofs.units.unit_roots.Goals as goal

pub returns-clause-begins : goal.returns-clause-begins
returns-clause-begins c =
    let p = program_view c.args.program.now in
    all-begins p (map region_unit (range_with_len 0 (length p.regions))) (map function_unit (range_with_len 0 (length p.functions)))
    (record { goals = c.new.result; begins = c.new-2.result }) c.push_regions.new.gathered c.push_functions.new.gathered
    (ap length c.new.ensures.items) c.new-2.ensures.items c.in_ok-push_regions.ensures c.in_ok-push_functions.ensures
