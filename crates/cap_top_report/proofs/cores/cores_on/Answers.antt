use Rattle.std.proofs.Common.{map, sym, ap, ◌∙◌, subst}
use Rattle.std.specs.List.{AllByRecursion}
use Rattle.cap_prog.specs.Views.{program_view}
use Rattle.cap_goal.specs.Views.{unit_view}
use Rattle.cap_goal_roots.specs.Units.{HasUnit}
use Rattle.cap_top_report.proofs.Numbered.{units-exist}
use Rattle.cap_top_report.proofs.cores.cores_on.Goals as goal

pub push_units-requires-clause-there : goal.push_units-requires-clause-there
push_units-requires-clause-there c =
    subst (AllByRecursion (HasUnit (program_view c.args.program.now)))
    (sym (ap (map unit_view) c.deref.ensures.value ∙ c.in_ok-units.ensures)) (units-exist (program_view c.args.program.now))
