use Rattle.std.proofs.Common.{◌≡◌, drop, fold, map, filter, not, flat_map}
use Rattle.cap_resolve_spec.specs.Finding.{found_if, limit, variable_count}
use Rattle.cap_resolve_spec.specs.Names.{is_past}
use Rattle.cap_resolve_spec.specs.Finding.{note}
use Rattle.cap_resolve_terms.specs.Views.{noted_view}
use Rattle.cap_resolve_findings.proofs.names.note_variables.Given as goal

abbrev pub invariant-loop-place : goal.invariant-loop-place
invariant-loop-place l =
    fold note (noted_view l.noted) (flat_map (λ p. found_if (is_past l.places p) p (limit variable_count)) (drop l.place-index l.places))
    ≡ fold note (noted_view l.fn.noted) (flat_map (λ p. found_if (is_past l.places p) p (limit variable_count)) l.places)
