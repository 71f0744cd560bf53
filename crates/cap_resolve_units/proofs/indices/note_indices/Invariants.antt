use Rattle.std.proofs.Common.{◌≡◌, drop, fold, flat_map}
use Rattle.cap_resolve_spec.specs.Finding.{note}
use Rattle.cap_resolve_spec.specs.Regions.{indices_findings}
use Rattle.cap_resolve_terms.specs.Views.{noted_view}
use Rattle.cap_resolve_parts.specs.Views.{guards_view, word_seen}
use Rattle.cap_resolve_units.proofs.indices.note_indices.Given as goal

abbrev pub invariant-loop-atom : goal.invariant-loop-atom
invariant-loop-atom l =
    fold note (noted_view l.noted) (flat_map (indices_findings l.scope (word_seen l.source) (word_seen l.target)) (guards_view (drop l.atom-index l.atoms)))
    ≡ fold note (noted_view l.fn.noted) (flat_map (indices_findings l.scope (word_seen l.source) (word_seen l.target)) (guards_view l.atoms))
