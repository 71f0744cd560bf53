use Rattle.std.proofs.Common.{◌≡◌, map, drop}
use Rattle.cap_parse_tree.specs.Spelling.{spell_declareds, spell_joints}
use Rattle.cap_parse_tree.specs.Views.{declareds_of, both_view, joints_of, either_view}
use Rattle.cap_parse_print.proofs.tail.Tail.+algebras.Given as goal

abbrev pub invariant-more_declared-loop-i : goal.invariant-more_declared-loop-i
invariant-more_declared-loop-i l =
    l.self ≡ spell_declareds (declareds_of (map both_view (drop l.i l.more))) l.fn.self

abbrev pub invariant-more_joints-loop-i : goal.invariant-more_joints-loop-i
invariant-more_joints-loop-i l =
    l.self ≡ spell_joints (joints_of (map either_view (drop l.i l.more))) l.fn.self
