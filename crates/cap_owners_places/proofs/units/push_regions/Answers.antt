use Rattle.std.proofs.Common.{refl}
use Rattle.cap_prog.specs.Views.{program_view}
use Rattle.cap_goal_spec.specs.Roots.{region_unit}
use Rattle.cap_kernel_nodes.proofs.Units.{region-narrow}
use Rattle.cap_owners_places.proofs.Gathering.{none-yet, one-more}
use Rattle.cap_owners_places.proofs.units.push_regions.Goals as goal

pub loop-number-init : goal.loop-number-init
loop-number-init c = none-yet (program_view c.args.program.now) c.args.gathered.now c.args.gathered.now refl refl

pub loop-number-preserved : goal.loop-number-preserved
loop-number-preserved c =
    one-more (program_view c.args.program.now) region_unit c.args.gathered.now c.loop-number.gathered c.push_unit.new.gathered c.loop-number.number c.loop-number.invariant c.in_ok-push_unit.ensures

pub push_unit-requires-clause-narrow : goal.push_unit-requires-clause-narrow
push_unit-requires-clause-narrow c = region-narrow (program_view c.args.program.now) c.loop-number.number c.requires
