use Rattle.cap_prog.specs.Views.{program_view}
use Rattle.cap_goal_spec.specs.Roots.{region_unit, roots}
use Rattle.cap_goal_roots.specs.Views.{roots_view}
use Rattle.cap_kernel_nodes.proofs.Units.{region-narrow, one-more}
use Rattle.cap_kernel_nodes.proofs.goals.push_region_roots.Goals as goal

pub loop-number-preserved : goal.loop-number-preserved
loop-number-preserved c =
    one-more (roots (program_view c.args.program.now)) region_unit (roots_view c.args.all.now.items) (roots_view c.loop-number.all.items) (roots_view c.push_roots.new.all.items) c.loop-number.number c.loop-number.invariant c.in_ok-push_roots.ensures

pub push_roots-requires-clause-narrow : goal.push_roots-requires-clause-narrow
push_roots-requires-clause-narrow c = region-narrow (program_view c.args.program.now) c.loop-number.number c.requires
