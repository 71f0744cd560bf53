use Rattle.std.proofs.Common.{◌≡◌, drop, fold, map, flat_map, Some}
use Rattle.cap_resolve_spec.specs.Finding.{note}
use Rattle.cap_resolve_spec.specs.Terms.{terms_findings}
use Rattle.cap_resolve_terms.specs.Views.{noted_view}
use Rattle.cap_lin.specs.declared.row.Sort.TheVariants.{Int}
use Rattle.cap_resolve_spec.specs.Terms.{wanted_as}
use Rattle.cap_resolve_parts.specs.Views.{terms_view}
use Rattle.cap_resolve_findings.proofs.terms.note_terms.Given as goal

abbrev pub invariant-loop-term : goal.invariant-loop-term
invariant-loop-term l =
    fold note (noted_view l.noted) (terms_findings l.scope (map (wanted_as (Some Int)) (terms_view (drop l.term-index l.terms))))
    ≡ fold note (noted_view l.fn.noted) (terms_findings l.scope (map (wanted_as (Some Int)) (terms_view l.terms)))
