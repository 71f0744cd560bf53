use Rattle.std.proofs.Common.{◌≡◌, drop, fold, map, flat_map, Some}
use Rattle.cap_resolve_spec.specs.Finding.{note}
use Rattle.cap_resolve_spec.specs.Terms.{terms_findings}
use Rattle.cap_resolve_terms.specs.Views.{noted_view}
use Rattle.cap_resolve_spec.specs.Items.{atom_wanted}
use Rattle.cap_resolve_tables.specs.Tables.{numbered_seen}
use Rattle.cap_resolve_parts.specs.Views.{guards_view}
use Rattle.cap_resolve_findings.proofs.terms.note_atom_terms.Given as goal

abbrev pub invariant-loop-atom : goal.invariant-loop-atom
invariant-loop-atom l =
    fold note (noted_view l.noted) (terms_findings l.scope (flat_map (atom_wanted (numbered_seen l.region)) (guards_view (drop l.atom-index l.atoms))))
    ≡ fold note (noted_view l.fn.noted) (terms_findings l.scope (flat_map (atom_wanted (numbered_seen l.region)) (guards_view l.atoms)))
