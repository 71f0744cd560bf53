-- Cases and actions in which nothing is found are narrow.
use Rattle.std.proofs.Common.{◌≡◌, ◌+◌, false, not, List, [], ◌∷◌, ◌++◌, map, filter, flat_map, length, Some, sym, subst, arith, length-append}
use Rattle.std.proofs.lemmas.List.{length-map}
use Rattle.std.specs.List.{AllByRecursion}
use Rattle.cap_lin.specs.declared.row.Sort.TheVariants.{Int}
use Rattle.cap_parse_tree.specs.Tree.{parts_of, CaseTree, ActionTree, RegionTree}
use Rattle.cap_prog.specs.WellFormed.{most_atoms}
use Rattle.cap_resolve_spec.specs.Finding.{guard_count, unknown_word, twice_word}
use Rattle.cap_resolve_spec.specs.Parts.{PlacedItem, term_words, comparison_words, when_comparisons, placed_items}
use Rattle.cap_resolve_spec.specs.Names.{known_as, word_place, repeated, past_variables, past, parameters_findings}
use Rattle.cap_resolve_spec.specs.Terms.{wanted_as, term_findings, terms_findings, comparison_wanted}
use Rattle.cap_resolve_spec.specs.Items.{NumberedRegion, Occurrence, unbound, known_name, scope_of, occurrence_word, occurrence_words, ret_findings, item_wanted, atom_wanted, atom_findings, atoms_twice}
use Rattle.cap_resolve_spec.specs.Regions.{own_parameters, own_name, parameters_scope, case_types, case_occurrences, case_new, is_known_in, case_known, case_unknown, case_scope, case_wanted, case_items_findings, case_findings, action_atoms, action_occurrences, action_new, is_whole_in, action_known, action_unknown, action_indices_findings, action_scope, action_wanted, action_findings, guard_names, region_type_findings}
use Rattle.cap_resolve_spec.proofs.Every.{each_front, each_behind}
use Rattle.cap_resolve_spec.proofs.Nothing.{nothing_front, nothing_behind, nothing_mapped, nothing_kept}
use Rattle.cap_resolve_spec.proofs.Sorts.{IsKnown}
use Rattle.cap_resolve_spec.proofs.Known.{OccursKnown, occurrences-known, all-kept}
use Rattle.cap_resolve_spec.proofs.Terms.{terms-front, terms-behind}
use Rattle.cap_resolve_spec.proofs.Clauses.{right-items}
use Rattle.cap_resolve_spec.specs.Program.{occurrence_sort, occurrence_sorts}
use Rattle.cap_resolve_spec.proofs.Regions.{unbound-known, names-count}
use Rattle.cap_resolve_functions.proofs.NarrowItems.{term_narrow, comparisons_narrow, guards_narrow, assertion_narrow}
use Rattle.cap_resolve_functions.specs.Narrow.{HasFew}
use Rattle.cap_resolve_regions.specs.Cases.{IsNarrowCase, IsNarrowAction}

none_unknown : (os : List Occurrence) → map unknown_word (occurrence_words os) ≡ [] → os ≡ []
none_unknown os e = nothing_mapped occurrence_word os (nothing_mapped unknown_word (occurrence_words os) e)

-- the parameters and the new names are counted
few_known : (k : NumberedRegion) (os : List Occurrence) → past_variables (map word_place (own_parameters k ++ occurrence_words os)) ≡ [] → HasFew (parameters_scope k ++ scope_of os)
few_known k os e =
    let h = names-count k os e in
    let a : length (parameters_scope k ++ scope_of os) ≡ length (parameters_scope k) + length (scope_of os) = length-append (parameters_scope k) (scope_of os) in
    let b : length (parameters_scope k) ≡ length (own_parameters k) = length-map (own_parameters k) (known_as Int) in
    let c : length (scope_of os) ≡ length os = length-map os known_name in
    let d : length (occurrence_sorts os) ≡ length os = length-map os occurrence_sort in
    omega arith

pub case_narrow : (rs : List RegionTree) (k : NumberedRegion) (c : CaseTree) → case_findings rs k c ≡ [] → IsNarrowCase (case_scope rs k c) c
case_narrow rs k c e = record {
  state = term_narrow (case_scope rs k c) few (Some Int) c.state (each_front (IsKnown (case_scope rs k c)) (term_words c.state) _ words) (nothing_front (term_findings (case_scope rs k c) (wanted_as (Some Int) c.state)) _ terms);
  when = comparisons_narrow (case_scope rs k c) few (when_comparisons c.when) (each_behind (IsKnown (case_scope rs k c)) (term_words c.state) _ words) (terms-front (case_scope rs k c) (flat_map (comparison_wanted (case_scope rs k c)) (when_comparisons c.when)) _ terms2);
  items =
      assertion_narrow rs (Some (own_name k)) (case_types rs k c) (case_scope rs k c) few false c.assertion
      (right-items rs (Some (own_name k)) (case_types rs k c) (case_scope rs k c) (placed_items c.assertion)
      (each_behind (OccursKnown (case_scope rs k c)) (unbound (term_words c.state ++ flat_map comparison_words (when_comparisons c.when))) _ all_known)
      (nothing_front (case_items_findings rs k c) _ rest)
      (terms-behind (case_scope rs k c) (flat_map (comparison_wanted (case_scope rs k c)) (when_comparisons c.when)) _ terms2));
}
  where
    counted : past_variables (map word_place (own_parameters k ++ occurrence_words (case_known rs k c))) ++ (case_items_findings rs k c ++ terms_findings (case_scope rs k c) (case_wanted rs k c)) ≡ []
    counted = nothing_behind (ret_findings (case_new rs k c)) _ (nothing_behind (map unknown_word (occurrence_words (case_unknown rs k c))) _ e)

    few : HasFew (case_scope rs k c)
    few = few_known k (case_known rs k c) (nothing_front (past_variables (map word_place (own_parameters k ++ occurrence_words (case_known rs k c)))) _ counted)

    rest : case_items_findings rs k c ++ terms_findings (case_scope rs k c) (case_wanted rs k c) ≡ []
    rest = nothing_behind (past_variables (map word_place (own_parameters k ++ occurrence_words (case_known rs k c)))) _ counted

    terms : terms_findings (case_scope rs k c) (case_wanted rs k c) ≡ []
    terms = nothing_behind (case_items_findings rs k c) _ rest

    terms2 : terms_findings (case_scope rs k c) (flat_map (comparison_wanted (case_scope rs k c)) (when_comparisons c.when) ++ flat_map (λ (i : PlacedItem). item_wanted (case_types rs k c) (case_scope rs k c) i.1) (placed_items c.assertion)) ≡ []
    terms2 = nothing_behind (term_findings (case_scope rs k c) (wanted_as (Some Int) c.state)) _ terms

    kept : case_known rs k c ≡ case_new rs k c
    kept = all-kept (is_known_in rs k c) (case_new rs k c) (nothing_kept (λ o. not (is_known_in rs k c o)) (case_new rs k c) (nothing_front (filter (λ o. not (is_known_in rs k c o)) (case_new rs k c)) _ (none_unknown (case_unknown rs k c) (nothing_front (map unknown_word (occurrence_words (case_unknown rs k c))) _ e))))

    all_known : AllByRecursion (OccursKnown (case_scope rs k c)) (case_occurrences rs k c)
    all_known = subst (λ os. AllByRecursion (OccursKnown (parameters_scope k ++ scope_of os)) (case_occurrences rs k c)) (sym kept) (occurrences-known (parameters_scope k) (case_occurrences rs k c))

    words : AllByRecursion (IsKnown (case_scope rs k c)) (term_words c.state ++ flat_map comparison_words (when_comparisons c.when))
    words = unbound-known (case_scope rs k c) (term_words c.state ++ flat_map comparison_words (when_comparisons c.when)) (each_front (OccursKnown (case_scope rs k c)) (unbound (term_words c.state ++ flat_map comparison_words (when_comparisons c.when))) _ all_known)

pub action_narrow : (k : NumberedRegion) (a : ActionTree) → action_findings k a ≡ [] → IsNarrowAction (action_scope k a) a
action_narrow k a e = record {
  guards = guards_narrow (action_scope k a) few false (Some k) (parts_of a.guards) (each_front (OccursKnown (action_scope k a)) (action_atoms k a) _ all_known) (terms-front (action_scope k a) (flat_map (atom_wanted (Some k)) (parts_of a.guards)) _ terms);
  source = term_narrow (action_scope k a) few (Some Int) a.source (each_front (IsKnown (action_scope k a)) (term_words a.source) _ words) (nothing_front (term_findings (action_scope k a) (wanted_as (Some Int) a.source)) _ terms2);
  target = term_narrow (action_scope k a) few (Some Int) a.target (each_front (IsKnown (action_scope k a)) (term_words a.target) _ words2) (nothing_front (term_findings (action_scope k a) (wanted_as (Some Int) a.target)) _ terms3);
  when = comparisons_narrow (action_scope k a) few (when_comparisons a.when) (each_behind (IsKnown (action_scope k a)) (term_words a.target) _ words2) (nothing_behind (term_findings (action_scope k a) (wanted_as (Some Int) a.target)) _ terms3);
}
  where
    named : map unknown_word (occurrence_words (action_unknown k a)) ++ (ret_findings (action_new k a) ++ (past_variables (map word_place (own_parameters k ++ occurrence_words (action_known k a))) ++ (flat_map (atom_findings k) (parts_of a.guards) ++ (atoms_twice (parts_of a.guards) ++ terms_findings (action_scope k a) (action_wanted k a))))) ≡ []
    named = nothing_behind (action_indices_findings k a) _ e

    counted : past_variables (map word_place (own_parameters k ++ occurrence_words (action_known k a))) ++ (flat_map (atom_findings k) (parts_of a.guards) ++ (atoms_twice (parts_of a.guards) ++ terms_findings (action_scope k a) (action_wanted k a))) ≡ []
    counted = nothing_behind (ret_findings (action_new k a)) _ (nothing_behind (map unknown_word (occurrence_words (action_unknown k a))) _ named)

    few : HasFew (action_scope k a)
    few = few_known k (action_known k a) (nothing_front (past_variables (map word_place (own_parameters k ++ occurrence_words (action_known k a)))) _ counted)

    rest : flat_map (atom_findings k) (parts_of a.guards) ++ (atoms_twice (parts_of a.guards) ++ terms_findings (action_scope k a) (action_wanted k a)) ≡ []
    rest = nothing_behind (past_variables (map word_place (own_parameters k ++ occurrence_words (action_known k a)))) _ counted

    terms : terms_findings (action_scope k a) (action_wanted k a) ≡ []
    terms = nothing_behind (atoms_twice (parts_of a.guards)) _ (nothing_behind (flat_map (atom_findings k) (parts_of a.guards)) _ rest)

    terms2 : terms_findings (action_scope k a) (wanted_as (Some Int) a.source ∷ wanted_as (Some Int) a.target ∷ flat_map (comparison_wanted (action_scope k a)) (when_comparisons a.when)) ≡ []
    terms2 = terms-behind (action_scope k a) (flat_map (atom_wanted (Some k)) (parts_of a.guards)) _ terms

    terms3 : terms_findings (action_scope k a) (wanted_as (Some Int) a.target ∷ flat_map (comparison_wanted (action_scope k a)) (when_comparisons a.when)) ≡ []
    terms3 = nothing_behind (term_findings (action_scope k a) (wanted_as (Some Int) a.source)) _ terms2

    kept : action_known k a ≡ action_new k a
    kept = all-kept (is_whole_in k a) (action_new k a) (nothing_kept (λ o. not (is_whole_in k a o)) (action_new k a) (none_unknown (action_unknown k a) (nothing_front (map unknown_word (occurrence_words (action_unknown k a))) _ named)))

    all_known : AllByRecursion (OccursKnown (action_scope k a)) (action_occurrences k a)
    all_known = subst (λ os. AllByRecursion (OccursKnown (parameters_scope k ++ scope_of os)) (action_occurrences k a)) (sym kept) (occurrences-known (parameters_scope k) (action_occurrences k a))

    words : AllByRecursion (IsKnown (action_scope k a)) (term_words a.source ++ (term_words a.target ++ flat_map comparison_words (when_comparisons a.when)))
    words = unbound-known (action_scope k a) (term_words a.source ++ (term_words a.target ++ flat_map comparison_words (when_comparisons a.when))) (each_behind (OccursKnown (action_scope k a)) (action_atoms k a) _ all_known)

    words2 : AllByRecursion (IsKnown (action_scope k a)) (term_words a.target ++ flat_map comparison_words (when_comparisons a.when))
    words2 = each_behind (IsKnown (action_scope k a)) (term_words a.source) _ words

-- ---- nothing is found in the cases and the actions of a region type in which nothing is found

in_both : (rs : List RegionTree) (k : NumberedRegion) → region_type_findings rs k ≡ [] → flat_map (case_findings rs k) k.region.cases.parts ++ flat_map (action_findings k) k.region.actions.parts ≡ []
in_both rs k e =
    nothing_behind (past most_atoms guard_count (guard_names k.region)) _
    (nothing_behind (map twice_word (repeated (guard_names k.region))) _ (nothing_behind (parameters_findings (own_parameters k)) _ e))

pub in_cases : (rs : List RegionTree) (k : NumberedRegion) → region_type_findings rs k ≡ [] → flat_map (case_findings rs k) k.region.cases.parts ≡ []
in_cases rs k e = nothing_front (flat_map (case_findings rs k) k.region.cases.parts) _ (in_both rs k e)

pub in_actions : (rs : List RegionTree) (k : NumberedRegion) → region_type_findings rs k ≡ [] → flat_map (action_findings k) k.region.actions.parts ≡ []
in_actions rs k e = nothing_behind (flat_map (case_findings rs k) k.region.cases.parts) _ (in_both rs k e)
