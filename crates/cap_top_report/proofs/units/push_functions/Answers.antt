use Rattle.std.proofs.Common.{map, refl}
use Rattle.cap_goal.specs.Views.{unit_view}
use Rattle.cap_goal_spec.specs.Roots.{function_unit}
use Rattle.cap_top_report.proofs.Numbered.{one-more}
use Rattle.cap_top_report.proofs.units.push_functions.Goals as goal

pub loop-number-preserved : goal.loop-number-preserved
loop-number-preserved c =
    one-more unit_view function_unit (map unit_view c.args.units.now.items) c.loop-number.units.items c.push.new.self.items _
    c.loop-number.number c.in_ok-push.ensures.items refl c.loop-number.invariant
