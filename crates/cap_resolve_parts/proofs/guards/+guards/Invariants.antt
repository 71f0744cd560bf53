use Rattle.std.proofs.Common.{◌≡◌, ◌++◌, drop, map}
use Rattle.cap_parse_tree.specs.Views.{joint_view, algebra_view, both_view, either_view, declareds_of, joints_of}
use Rattle.cap_resolve_spec.specs.Parts.{joint_guards, declareds_guards, algebra_guards, joints_guards}
use Rattle.cap_resolve_parts.specs.Views.{declareds_view}
use Rattle.cap_resolve_parts.proofs.guards.+guards.Given as goal

abbrev pub invariant-push_joint-loop-both : goal.invariant-push_joint-loop-both
invariant-push_joint-loop-both l =
    declareds_view l.list.items ++ declareds_guards (declareds_of (map both_view (drop l.both-index l.both-items)))
    ≡ declareds_view l.fn.list.items ++ joint_guards (joint_view l.joint)

abbrev pub invariant-push_algebra-loop-either : goal.invariant-push_algebra-loop-either
invariant-push_algebra-loop-either l =
    declareds_view l.list.items ++ joints_guards (joints_of (map either_view (drop l.either-index l.either-items)))
    ≡ declareds_view l.fn.list.items ++ algebra_guards (algebra_view l.algebra)
