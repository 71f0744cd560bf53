use Rattle.std.proofs.Common.{◌≡◌, drop, fold, map, flat_map}
use Rattle.cap_resolve_spec.specs.Finding.{note}
use Rattle.cap_resolve_terms.specs.Views.{noted_view}
use Rattle.cap_resolve_parts.specs.Views.{words_view}
use Rattle.cap_parse_tree.specs.Views.{case_view}
use Rattle.cap_resolve_tables.specs.Tables.{regions_of, numbered_view}
use Rattle.cap_resolve_units.specs.Regions.{one_case_part}
use Rattle.cap_resolve_units.proofs.types.note_cases.Given as goal

abbrev pub invariant-loop-case : goal.invariant-loop-case
invariant-loop-case l =
    fold note (noted_view l.noted) (flat_map (one_case_part (regions_of l.regions) (numbered_view l.region) l.own (words_view l.parameters)) (map case_view (drop l.case-index l.cases)))
    ≡ fold note (noted_view l.fn.noted) (flat_map (one_case_part (regions_of l.regions) (numbered_view l.region) l.own (words_view l.parameters)) (map case_view l.cases))
