use Rattle.std.proofs.Common.{◌≡◌, drop, fold, map, filter, not, flat_map}
use Rattle.cap_resolve_spec.specs.Items.{atom_findings}
use Rattle.cap_resolve_parts.specs.Views.{guards_view}
use Rattle.cap_resolve_tables.specs.Tables.{numbered_view}
use Rattle.cap_resolve_spec.specs.Finding.{note}
use Rattle.cap_resolve_terms.specs.Views.{noted_view}
use Rattle.cap_resolve_findings.proofs.items.note_atoms.Given as goal

abbrev pub invariant-loop-atom : goal.invariant-loop-atom
invariant-loop-atom l =
    fold note (noted_view l.noted) (flat_map (atom_findings (numbered_view l.region)) (guards_view (drop l.atom-index l.atoms)))
    ≡ fold note (noted_view l.fn.noted) (flat_map (atom_findings (numbered_view l.region)) (guards_view l.atoms))
