-- What is wrong in region types, by what is known in their cases and actions.
use Rattle.std.specs.Prelude.{List, ◌∷◌, ◌++◌, map, flat_map}
use Rattle.cap_parse_tree.specs.declared.word.Word.{Word}
use Rattle.cap_parse_tree.specs.Tree.{parts_of, CaseTree, ActionTree, RegionTree}
use Rattle.cap_resolve_spec.specs.Finding.{Finding, guard_count, twice_word}
use Rattle.cap_resolve_spec.specs.Parts.{placed_items, when_comparisons}
use Rattle.cap_resolve_spec.specs.Names.{repeated, past, parameters_findings}
use Rattle.cap_resolve_spec.specs.Items.{NumberedRegion, typed, types_told}
use Rattle.cap_resolve_spec.specs.Regions.{own_parameters, own_name, guard_names}
use Rattle.cap_resolve_units.specs.Parts.{case_part, whole_action_part}

abbrev pub one_case_part :
    List RegionTree → NumberedRegion → Word → List Word → CaseTree → List Finding
one_case_part rs k own parameters c =
    case_part rs own (typed own.text k ∷ types_told rs (placed_items c.assertion)) parameters
    c.state (when_comparisons c.when) (placed_items c.assertion)

abbrev pub one_action_part : NumberedRegion → List Word → ActionTree → List Finding
one_action_part k parameters a =
    whole_action_part k parameters (parts_of a.guards) a.source a.target (when_comparisons a.when)

abbrev pub region_part : List RegionTree → NumberedRegion → List Finding
region_part rs k =
    parameters_findings (own_parameters k)
    ++ ((map twice_word (repeated (guard_names k.region))
    ++ past 16 guard_count (guard_names k.region))
    ++ (flat_map (one_case_part rs k (own_name k) (own_parameters k)) k.region.cases.parts
    ++ flat_map (one_action_part k (own_parameters k)) k.region.actions.parts))
