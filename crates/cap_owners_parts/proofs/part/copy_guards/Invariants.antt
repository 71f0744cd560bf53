use Rattle.std.proofs.Common.{◌≡◌, map}
use Rattle.std.specs.FinMap.{empty, from_entries}
use Rattle.cap_owners_parts.specs.Views.{entry_view}
use Rattle.cap_owners_parts.proofs.Maps.{puts}
use Rattle.cap_owners_parts.proofs.part.copy_guards.Given as goal

abbrev pub invariant-loop-region : goal.invariant-loop-region
invariant-loop-region l = puts (from_entries (map entry_view l.copies.entries)) (map entry_view l.region-iterator) ≡ puts empty (map entry_view l.guards.entries)
