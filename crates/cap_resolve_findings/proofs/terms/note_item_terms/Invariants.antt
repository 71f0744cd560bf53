use Rattle.std.proofs.Common.{◌≡◌, drop, fold, map, flat_map, Some}
use Rattle.cap_resolve_spec.specs.Finding.{note}
use Rattle.cap_resolve_spec.specs.Terms.{terms_findings}
use Rattle.cap_resolve_terms.specs.Views.{noted_view}
use Rattle.cap_resolve_spec.specs.Items.{item_wanted}
use Rattle.cap_resolve_tables.specs.Tables.{types_of}
use Rattle.cap_resolve_parts.specs.Views.{parts_view}
use Rattle.cap_resolve_findings.proofs.terms.note_item_terms.Given as goal

abbrev pub invariant-loop-part : goal.invariant-loop-part
invariant-loop-part l =
    fold note (noted_view l.noted) (terms_findings l.scope (flat_map (λ i. item_wanted (types_of l.types) l.scope i.1) (parts_view (drop l.part-index l.parts))))
    ≡ fold note (noted_view l.fn.noted) (terms_findings l.scope (flat_map (λ i. item_wanted (types_of l.types) l.scope i.1) (parts_view l.parts)))
