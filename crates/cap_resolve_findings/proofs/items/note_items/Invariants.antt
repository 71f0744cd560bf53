use Rattle.std.proofs.Common.{◌≡◌, drop, fold, flat_map}
use Rattle.cap_resolve_spec.specs.Finding.{note}
use Rattle.cap_resolve_spec.specs.Items.{item_findings}
use Rattle.cap_resolve_terms.specs.Views.{noted_view}
use Rattle.cap_resolve_parts.specs.Views.{parts_view, word_seen}
use Rattle.cap_resolve_tables.specs.Tables.{regions_of, types_of}
use Rattle.cap_resolve_findings.proofs.items.note_items.Given as goal

abbrev pub invariant-loop-part : goal.invariant-loop-part
invariant-loop-part l =
    fold note (noted_view l.noted) (flat_map (λ i. item_findings (regions_of l.reading.regions.now) (word_seen l.own) (types_of l.reading.types) l.reading.scope.now i.1) (parts_view (drop l.part-index l.parts)))
    ≡ fold note (noted_view l.fn.noted) (flat_map (λ i. item_findings (regions_of l.reading.regions.now) (word_seen l.own) (types_of l.reading.types) l.reading.scope.now i.1) (parts_view l.parts))
