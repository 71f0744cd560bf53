use Rattle.std.proofs.Common.{◌≡◌, ◌++◌, drop, flat_map}
use Rattle.cap_resolve_spec.specs.Items.{atom_occurrences}
use Rattle.cap_resolve_parts.specs.Views.{guards_view}
use Rattle.cap_resolve_tables.specs.Tables.{numbered_seen}
use Rattle.cap_resolve_tables.specs.Views.{occurrences_view}
use Rattle.cap_resolve_tables.proofs.atoms.push_atoms.Given as goal

abbrev pub invariant-loop-atom : goal.invariant-loop-atom
invariant-loop-atom l =
    occurrences_view l.list.items ++ flat_map (atom_occurrences l.inside (numbered_seen l.region)) (guards_view (drop l.atom-index l.atoms))
    ≡ occurrences_view l.fn.list.items ++ flat_map (atom_occurrences l.inside (numbered_seen l.region)) (guards_view l.atoms)
