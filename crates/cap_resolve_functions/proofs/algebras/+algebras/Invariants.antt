use Rattle.std.proofs.Common.{◌≡◌, drop}
use Rattle.cap_galg.specs.Views as seen
use Rattle.cap_parse_tree.specs.Views.{joint_view, algebra_view}
use Rattle.cap_resolve_spec.specs.Program.{declareds_program, joint_program, joints_program, algebra_program}
use Rattle.cap_resolve_functions.proofs.Rests.{declareds_view, joints_view}
use Rattle.cap_resolve_functions.proofs.algebras.+algebras.Given as goal

abbrev pub invariant-joint-loop-both : goal.invariant-joint-loop-both
invariant-joint-loop-both l =
    declareds_program (seen.algebra_view l.read) (declareds_view (drop l.both-index l.both-items)) ≡ joint_program (joint_view l.guards)

abbrev pub invariant-build_algebra-loop-other : goal.invariant-build_algebra-loop-other
invariant-build_algebra-loop-other l =
    joints_program (seen.algebra_view l.read) (joints_view (drop l.other-index l.other-items)) ≡ algebra_program (algebra_view l.guards)
