-- What is wrong in a region type.
use Rattle.std.specs.Prelude.{ℕ, Bool, true, false, not, ◌&&◌, ◌||◌, if◌then◌else◌, List, [], ◌∷◌, ◌++◌, map, flat_map, filter, Option, Some}
use Rattle.cap_lin.specs.declared.row.Sort.TheVariants.{Int}
use Rattle.cap_prog.specs.WellFormed.{most_atoms}
use Rattle.cap_parse_tree.specs.declared.word.Word.{Word}
use Rattle.cap_parse_tree.specs.Tree.{parts_of, SlotTree, any, is, GuardTree, count, CaseTree, ActionTree, RegionTree}
use Rattle.cap_resolve_spec.specs.Finding.{Finding, found_if, guard_count, unknown_word, twice_word, wrong_sort}
use Rattle.cap_resolve_spec.specs.Parts.{term_words, comparison_words, when_comparisons, whole_name, is_word, placed_items, region_parameters}
use Rattle.cap_resolve_spec.specs.Names.{NameScope, knows, whole_numbers, word_place, repeated, past_variables, past, parameters_findings}
use Rattle.cap_resolve_spec.specs.Terms.{WantedTerm, wanted_as, comparison_wanted, terms_findings}
use Rattle.cap_resolve_spec.specs.Items.{NumberedRegion, guard_words, region_guards, TypedName, typed, types_told, Occurrence, name_of, is_bound, unbound, occurrences, atom_occurrences, new_names, occurs_among, scope_of, occurrence_words, ret_findings, item_wanted, atom_wanted, item_findings, counts_indices, has_index, atom_findings, atoms_twice}

abbrev pub own_parameters : NumberedRegion → List Word
own_parameters k = region_parameters k.region

-- the first parameter, which is the region itself
abbrev pub own_name : NumberedRegion → Word
own_name k = k.region.parameters.first

abbrev pub parameters_scope : NumberedRegion → NameScope
parameters_scope k = whole_numbers (own_parameters k)

-- ---- a case

abbrev pub case_types : List RegionTree → NumberedRegion → CaseTree → List TypedName
case_types rs k c = typed (own_name k).text k ∷ types_told rs (placed_items c.assertion)

abbrev pub assertion_occurrences : List RegionTree → NumberedRegion → CaseTree → List Occurrence
assertion_occurrences rs k c = occurrences (case_types rs k c) (placed_items c.assertion)

abbrev pub case_occurrences : List RegionTree → NumberedRegion → CaseTree → List Occurrence
case_occurrences rs k c =
    unbound (term_words c.state ++ flat_map comparison_words (when_comparisons c.when))
    ++ assertion_occurrences rs k c

abbrev pub case_new : List RegionTree → NumberedRegion → CaseTree → List Occurrence
case_new rs k c = new_names (parameters_scope k) (case_occurrences rs k c)

-- the name has a binding position in the case's assertion outside conditionals
abbrev pub is_bound_in : List RegionTree → NumberedRegion → CaseTree → List ℕ → Bool
is_bound_in rs k c x = occurs_among (filter is_bound (assertion_occurrences rs k c)) x

-- of the new names a case knows those, and the one that is the whole state
abbrev pub is_known_in : List RegionTree → NumberedRegion → CaseTree → Occurrence → Bool
is_known_in rs k c o =
    is_bound_in rs k c (name_of o) || is_word (name_of o) (whole_name c.state)

abbrev pub case_known : List RegionTree → NumberedRegion → CaseTree → List Occurrence
case_known rs k c = filter (is_known_in rs k c) (case_new rs k c)

-- a name that has a binding position in the assertion must first occur in one there
abbrev pub is_bound_late : List RegionTree → NumberedRegion → CaseTree → Occurrence → Bool
is_bound_late rs k c o = is_bound_in rs k c (name_of o) && not o.bound

abbrev pub case_unknown : List RegionTree → NumberedRegion → CaseTree → List Occurrence
case_unknown rs k c =
    filter (λ o. not (is_known_in rs k c o)) (case_new rs k c)
    ++ filter (is_bound_late rs k c) (new_names (parameters_scope k) (assertion_occurrences rs k c))

abbrev pub case_scope : List RegionTree → NumberedRegion → CaseTree → NameScope
case_scope rs k c = parameters_scope k ++ scope_of (case_known rs k c)

abbrev pub case_wanted : List RegionTree → NumberedRegion → CaseTree → List WantedTerm
case_wanted rs k c =
    wanted_as (Some Int) c.state
    ∷ (flat_map (comparison_wanted (case_scope rs k c)) (when_comparisons c.when)
    ++ flat_map (λ i. item_wanted (case_types rs k c) (case_scope rs k c) i.1)
    (placed_items c.assertion))

abbrev pub case_items_findings : List RegionTree → NumberedRegion → CaseTree → List Finding
case_items_findings rs k c =
    flat_map (λ i. item_findings rs (Some (own_name k)) (case_types rs k c) (case_scope rs k c) i.1)
    (placed_items c.assertion)

abbrev pub case_findings : List RegionTree → NumberedRegion → CaseTree → List Finding
case_findings rs k c =
    map unknown_word (occurrence_words (case_unknown rs k c))
    ++ (ret_findings (case_new rs k c)
    ++ (past_variables (map word_place (own_parameters k ++ occurrence_words (case_known rs k c)))
    ++ (case_items_findings rs k c
    ++ terms_findings (case_scope rs k c) (case_wanted rs k c))))

-- ---- an action

abbrev pub action_atoms : NumberedRegion → ActionTree → List Occurrence
action_atoms k a = flat_map (atom_occurrences false (Some k)) (parts_of a.guards)

abbrev pub action_occurrences : NumberedRegion → ActionTree → List Occurrence
action_occurrences k a =
    action_atoms k a
    ++ unbound (term_words a.source
    ++ (term_words a.target ++ flat_map comparison_words (when_comparisons a.when)))

abbrev pub action_new : NumberedRegion → ActionTree → List Occurrence
action_new k a = new_names (parameters_scope k) (action_occurrences k a)

-- the names in an amount or a count, and none of an index
abbrev pub counted_in : Option NumberedRegion → GuardTree → List Occurrence
counted_in k g = if has_index g then [] else atom_occurrences false k g

abbrev pub counted_names : NumberedRegion → ActionTree → List Occurrence
counted_names k a = flat_map (counted_in (Some k)) (parts_of a.guards)

-- a new name must be the whole source, the whole target or a whole amount or count
abbrev pub is_whole_in : NumberedRegion → ActionTree → Occurrence → Bool
is_whole_in k a o =
    is_word (name_of o) (whole_name a.source)
    || (is_word (name_of o) (whole_name a.target)
    || occurs_among (filter is_bound (counted_names k a)) (name_of o))

abbrev pub action_known : NumberedRegion → ActionTree → List Occurrence
action_known k a = filter (is_whole_in k a) (action_new k a)

abbrev pub action_unknown : NumberedRegion → ActionTree → List Occurrence
action_unknown k a = filter (λ o. not (is_whole_in k a o)) (action_new k a)

-- In an index a new name must be the whole source or the whole target, and `_` is not allowed. The
-- scope is that of the parameters.
abbrev pub is_lost : NameScope → Option Word → Option Word → Word → Bool
is_lost scope source target w =
    not (knows scope w.text) && not (is_word w.text source || is_word w.text target)

abbrev pub index_findings : NameScope → Option Word → Option Word → Word → SlotTree → List Finding
index_findings scope source target g (any p) = found_if true g.place wrong_sort
index_findings scope source target g (is t) =
    map unknown_word (filter (is_lost scope source target) (term_words t))

-- of an atom; one without an index has none
abbrev pub indices_findings :
    NameScope → Option Word → Option Word → GuardTree → List Finding
indices_findings scope source target (count c k w p s q) =
    if counts_indices c then index_findings scope source target w s else []
indices_findings scope source target _ = []

abbrev pub action_indices_findings : NumberedRegion → ActionTree → List Finding
action_indices_findings k a =
    flat_map (indices_findings (parameters_scope k) (whole_name a.source) (whole_name a.target))
    (parts_of a.guards)

abbrev pub action_scope : NumberedRegion → ActionTree → NameScope
action_scope k a = parameters_scope k ++ scope_of (action_known k a)

abbrev pub action_wanted : NumberedRegion → ActionTree → List WantedTerm
action_wanted k a =
    flat_map (atom_wanted (Some k)) (parts_of a.guards)
    ++ wanted_as (Some Int) a.source ∷ wanted_as (Some Int) a.target
    ∷ flat_map (comparison_wanted (action_scope k a)) (when_comparisons a.when)

abbrev pub action_findings : NumberedRegion → ActionTree → List Finding
action_findings k a =
    action_indices_findings k a
    ++ (map unknown_word (occurrence_words (action_unknown k a))
    ++ (ret_findings (action_new k a)
    ++ (past_variables (map word_place (own_parameters k ++ occurrence_words (action_known k a)))
    ++ (flat_map (atom_findings k) (parts_of a.guards)
    ++ (atoms_twice (parts_of a.guards)
    ++ terms_findings (action_scope k a) (action_wanted k a))))))

-- ---- a region type

abbrev pub guard_names : RegionTree → List Word
guard_names r = flat_map guard_words (region_guards r)

abbrev pub region_type_findings : List RegionTree → NumberedRegion → List Finding
region_type_findings rs k =
    parameters_findings (own_parameters k)
    ++ (map twice_word (repeated (guard_names k.region))
    ++ (past most_atoms guard_count (guard_names k.region)
    ++ (flat_map (case_findings rs k) k.region.cases.parts
    ++ flat_map (action_findings k) k.region.actions.parts)))
