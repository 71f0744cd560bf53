use Rattle.std.proofs.Common.{◌≡◌, ◌++◌, drop, map}
use Rattle.cap_resolve_parts.specs.Views.{declareds_view}
use Rattle.cap_resolve_tables.specs.Entries.{guard_entry}
use Rattle.cap_resolve_tables.proofs.regions.guard_names.Given as goal

abbrev pub invariant-loop-guard : goal.invariant-loop-guard
invariant-loop-guard l =
    l.names ++ map guard_entry (declareds_view (drop l.guard-index l.guards)) ≡ map guard_entry (declareds_view l.guards)
