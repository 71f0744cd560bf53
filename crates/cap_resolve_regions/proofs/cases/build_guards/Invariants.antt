use Rattle.std.proofs.Common.{◌≡◌, ◌++◌, drop, map}
use Rattle.cap_parse_tree.specs.Tree.{parts_of}
use Rattle.cap_parse_tree.specs.Views.{guard_view, several_view}
use Rattle.cap_resolve_spec.specs.Program.{action_guard}
use Rattle.cap_resolve_tables.specs.Tables.{numbered_view}
use Rattle.cap_resolve_functions.proofs.Rests.{behind}
use Rattle.cap_resolve_regions.proofs.cases.build_guards.Given as goal

abbrev pub invariant-loop-part : goal.invariant-loop-part
invariant-loop-part l =
    l.made.items ++ map (action_guard (numbered_view l.region) l.scope) (behind guard_view (drop l.part-index l.part-items))
    ≡ map (action_guard (numbered_view l.region) l.scope) (parts_of (several_view guard_view l.guards))
