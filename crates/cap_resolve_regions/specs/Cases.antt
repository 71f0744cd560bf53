-- The names that cases and actions know, by their types and items, and cases and actions that are
-- narrow.
use Rattle.std.specs.Prelude.{List, ◌++◌, map, filter, flat_map}
use Rattle.std.specs.List.{AllByRecursion}
use Rattle.cap_prog.specs.Program.{PlainCase, PlainAction}
use Rattle.cap_parse_tree.specs.Tree.{parts_of, CaseTree, ActionTree, RegionTree}
use Rattle.cap_resolve_spec.specs.Parts.{PlacedItem, term_words, comparison_words, when_comparisons, whole_name, term_place, atom_place}
use Rattle.cap_resolve_spec.specs.Names.{NameScope}
use Rattle.cap_resolve_spec.specs.Items.{NumberedRegion, TypedName, Occurrence, unbound, occurrences, new_names}
use Rattle.cap_resolve_spec.specs.Regions.{action_occurrences, counted_names}
use Rattle.cap_resolve_spec.specs.Linear.{term_form}
use Rattle.cap_resolve_spec.specs.Program.{occurrence_sorts, comparison_program, assertion_program, action_guard}
use Rattle.cap_resolve_scopes.specs.Lists.{bound_entries, is_known_with, is_whole_with}
use Rattle.cap_resolve_functions.specs.Narrow.{IsNarrow, IsNarrowComparison, IsNarrowGuard, IsNarrowAssertion}

abbrev pub known_by_case : NameScope → List TypedName → List PlacedItem → CaseTree → List Occurrence
known_by_case scope types parts c =
    filter (is_known_with (bound_entries (occurrences types parts)) (whole_name c.state))
    (new_names scope
    (unbound (term_words c.state ++ flat_map comparison_words (when_comparisons c.when))
    ++ occurrences types parts))

abbrev pub known_by_action : NameScope → NumberedRegion → ActionTree → List Occurrence
known_by_action scope k a =
    filter (is_whole_with (bound_entries (counted_names k a)) (whole_name a.source)
    (whole_name a.target))
    (new_names scope (action_occurrences k a))

-- a case and an action with the names that they know
abbrev pub case_built :
    List RegionTree → List TypedName → NameScope → List Occurrence → CaseTree → PlainCase
case_built rs types scope known c = record {
  names = occurrence_sorts known;
  state = term_form scope c.state;
  when = map (comparison_program scope) (when_comparisons c.when);
  items = assertion_program rs types scope c.assertion;
  place = term_place c.state;
}

abbrev pub action_built : NumberedRegion → NameScope → List Occurrence → ActionTree → PlainAction
action_built k scope known a = record {
  names = occurrence_sorts known;
  guards = map (action_guard k scope) (parts_of a.guards);
  source = term_form scope a.source;
  target = term_form scope a.target;
  when = map (comparison_program scope) (when_comparisons a.when);
  place = atom_place a.guards.first;
}

-- a case and an action whose terms are narrow
pub record IsNarrowCase (scope : NameScope) (c : CaseTree) : Type 0 where
  pub state : IsNarrow scope c.state
  pub when : AllByRecursion (IsNarrowComparison scope) (when_comparisons c.when)
  pub items : IsNarrowAssertion scope c.assertion

pub record IsNarrowAction (scope : NameScope) (a : ActionTree) : Type 0 where
  pub guards : AllByRecursion (IsNarrowGuard scope) (parts_of a.guards)
  pub source : IsNarrow scope a.source
  pub target : IsNarrow scope a.target
  pub when : AllByRecursion (IsNarrowComparison scope) (when_comparisons a.when)
