use Rattle.std.proofs.Common.{◌≡◌, ◌++◌, drop, map}
use Rattle.cap_prog.specs.Views as seen
use Rattle.cap_parse_tree.specs.Views.{action_view}
use Rattle.cap_resolve_spec.specs.Program.{action_program}
use Rattle.cap_resolve_tables.specs.Tables.{numbered_view}
use Rattle.cap_resolve_regions.proofs.types.actions_of.Given as goal

abbrev pub invariant-loop-action : goal.invariant-loop-action
invariant-loop-action l =
    map seen.action_view l.made.items ++ map (action_program (numbered_view l.region)) (map action_view (drop l.action-index l.actions))
    ≡ map (action_program (numbered_view l.region)) (map action_view l.actions)
