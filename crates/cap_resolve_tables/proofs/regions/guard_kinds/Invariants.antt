use Rattle.std.proofs.Common.{◌≡◌, ◌++◌, drop, map}
use Rattle.cap_resolve_parts.specs.Views.{declareds_view}
use Rattle.cap_resolve_tables.specs.Entries.{guard_atom}
use Rattle.cap_resolve_tables.proofs.regions.guard_kinds.Given as goal

abbrev pub invariant-loop-guard : goal.invariant-loop-guard
invariant-loop-guard l =
    l.kinds.items ++ map guard_atom (declareds_view (drop l.guard-index l.guards)) ≡ map guard_atom (declareds_view l.guards)
