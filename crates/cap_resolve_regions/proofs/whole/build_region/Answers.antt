use Rattle.std.proofs.Common.{◌∙◌, map, flat_map, ap}
use Rattle.cap_parse_tree.specs.Views.{case_view, action_view}
use Rattle.cap_resolve_spec.specs.Names.{parameters_findings}
use Rattle.cap_resolve_spec.specs.Regions.{own_parameters, case_findings, action_findings}
use Rattle.cap_resolve_spec.proofs.Nothing.{nothing_front}
use Rattle.cap_resolve_spec.proofs.Regions.{parameters-count}
use Rattle.cap_resolve_tables.specs.Tables.{regions_of, numbered_view}
use Rattle.cap_resolve_regions.proofs.NarrowParts.{in_cases, in_actions}
use Rattle.cap_resolve_regions.proofs.whole.build_region.Goals as goal

pub cases_of-requires-clause-nothing : goal.cases_of-requires-clause-nothing
cases_of-requires-clause-nothing c =
    ap (λ xs. flat_map (case_findings (regions_of c.args.regions.now) (numbered_view c.args.region)) (map case_view xs)) c.as_slice-2.ensures.value
    ∙ in_cases (regions_of c.args.regions.now) (numbered_view c.args.region) c.requires

pub actions_of-requires-clause-nothing : goal.actions_of-requires-clause-nothing
actions_of-requires-clause-nothing c =
    ap (λ xs. flat_map (action_findings (numbered_view c.args.region)) (map action_view xs)) c.as_slice-3.ensures.value
    ∙ in_actions (regions_of c.args.regions.now) (numbered_view c.args.region) c.requires

pub build_type-requires : goal.build_type-requires
build_type-requires c =
    parameters-count (own_parameters (numbered_view c.args.region)) (nothing_front (parameters_findings (own_parameters (numbered_view c.args.region))) _ c.requires)
