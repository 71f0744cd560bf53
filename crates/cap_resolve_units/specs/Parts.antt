-- What is wrong in cases, actions and statements, by what is known there.
use Rattle.std.specs.Prelude.{false, List, ◌∷◌, ◌++◌, map, filter, flat_map, not, Option, Some}
use Rattle.cap_lin.specs.declared.row.Sort.TheVariants.{Int}
use Rattle.cap_syntax.specs.declared.place.Place.{Place}
use Rattle.cap_parse_tree.specs.declared.word.Word.{Word}
use Rattle.cap_parse_tree.specs.Tree.{TermTree, ComparisonTree, GuardTree, ClauseTree, StatementTree, RegionTree, FunctionTree}
use Rattle.cap_resolve_spec.specs.Finding.{Finding, unknown_word}
use Rattle.cap_resolve_spec.specs.Parts.{PlacedItem, clause_parts, invariant, term_words, comparison_words, whole_name}
use Rattle.cap_resolve_spec.specs.Names.{NameScope, whole_numbers, word_place}
use Rattle.cap_resolve_spec.specs.Terms.{WantedTerm, wanted_as, comparison_wanted, terms_findings}
use Rattle.cap_resolve_spec.specs.Items.{NumberedRegion, atom_occurrences, unbound, occurrences, new_names, TypedName, types_told, Occurrence, scope_of, occurrence_words, ret_findings, item_findings, item_wanted, atom_findings, atoms_twice, atom_wanted}
use Rattle.cap_resolve_spec.specs.Regions.{counted_in, indices_findings}
use Rattle.cap_resolve_scopes.specs.Lists.{bound_entries, is_known_with, is_late_with, is_whole_with}
use Rattle.cap_resolve_findings.specs.Clauses.{counted_findings, assertion_findings, own_findings}

-- `ensures` or an invariant, behind these types
abbrev pub clause_part :
    List RegionTree → List TypedName → List Place → NameScope → Option ClauseTree → List Finding
clause_part rs types counted known c =
    assertion_findings rs (types ++ types_told rs (clause_parts c)) counted known (clause_parts c)

-- a statement with its invariant
abbrev pub statement_part :
    List RegionTree → List FunctionTree → List TypedName → List Place → NameScope → NameScope
    → NameScope → StatementTree → List Finding
statement_part rs fs types counted given looped body s =
    own_findings fs given body s ++ clause_part rs types counted looped (invariant s)

-- the terms of a case
abbrev pub case_terms :
    List TypedName → NameScope → TermTree → List ComparisonTree → List PlacedItem → List WantedTerm
case_terms types scope state when parts =
    wanted_as (Some Int) state
    ∷ (flat_map (comparison_wanted scope) when
    ++ flat_map (λ i. item_wanted types scope i.1) parts)

-- what stands in a case, where these names are known
abbrev pub case_contents :
    List RegionTree → Word → List TypedName → NameScope → TermTree → List ComparisonTree
    → List PlacedItem → List Finding
case_contents rs own types scope state when parts =
    flat_map (λ i. item_findings rs (Some own) types scope i.1) parts
    ++ terms_findings scope (case_terms types scope state when parts)

-- a case that knows these names
abbrev pub known_part :
    List RegionTree → Word → List TypedName → List Word → List Occurrence → TermTree
    → List ComparisonTree → List PlacedItem → List Finding
known_part rs own types parameters known state when parts =
    counted_findings (map word_place parameters) known
    ++ case_contents rs own types (whole_numbers parameters ++ scope_of known) state when parts

-- the terms of an action
abbrev pub action_terms :
    NumberedRegion → NameScope → List GuardTree → TermTree → TermTree → List ComparisonTree
    → List WantedTerm
action_terms k scope atoms source target when =
    flat_map (atom_wanted (Some k)) atoms
    ++ wanted_as (Some Int) source ∷ wanted_as (Some Int) target
    ∷ flat_map (comparison_wanted scope) when

-- an action that knows these names
abbrev pub action_part :
    NumberedRegion → List Word → List Occurrence → List GuardTree → TermTree → TermTree
    → List ComparisonTree → List Finding
action_part k parameters known atoms source target when =
    counted_findings (map word_place parameters) known
    ++ (flat_map (atom_findings k) atoms
    ++ (atoms_twice atoms
    ++ terms_findings (whole_numbers parameters ++ scope_of known)
    (action_terms k (whole_numbers parameters ++ scope_of known) atoms source target when)))

-- ---- names of cases and actions

-- the new names of a case
abbrev pub case_names :
    NameScope → List TypedName → TermTree → List ComparisonTree → List PlacedItem → List Occurrence
case_names scope types state when parts =
    new_names scope (unbound (term_words state ++ flat_map comparison_words when)
    ++ occurrences types parts)

abbrev pub late_names : NameScope → List Occurrence → List Occurrence
late_names scope inner = filter (is_late_with (bound_entries inner)) (new_names scope inner)

abbrev pub unknown_names : NameScope → Option Word → List Occurrence → List Occurrence
unknown_names bound whole new = filter (λ o. not (is_known_with bound whole o)) new

abbrev pub names_part : NameScope → Option Word → List Occurrence → List Occurrence → List Finding
names_part bound whole new late =
    map unknown_word (occurrence_words (unknown_names bound whole new ++ late)) ++ ret_findings new

-- a case whose assertion has these names, and whose new names are these
abbrev pub case_part_of :
    List RegionTree → Word → List TypedName → List Word → List Occurrence → List Occurrence
    → TermTree → List ComparisonTree → List PlacedItem → List Finding
case_part_of rs own types parameters inner new state when parts =
    names_part (bound_entries inner) (whole_name state) new
    (late_names (whole_numbers parameters) inner)
    ++ known_part rs own types parameters
    (filter (is_known_with (bound_entries inner) (whole_name state)) new) state when parts

abbrev pub case_part :
    List RegionTree → Word → List TypedName → List Word → TermTree → List ComparisonTree
    → List PlacedItem → List Finding
case_part rs own types parameters state when parts =
    case_part_of rs own types parameters (occurrences types parts)
    (case_names (whole_numbers parameters) types state when parts) state when parts

-- the names of an action's guards, and the new names of an action
abbrev pub atom_names : NumberedRegion → List GuardTree → List Occurrence
atom_names k atoms = flat_map (atom_occurrences false (Some k)) atoms

-- the names in amounts and counts, and none of those in indices
abbrev pub amount_names : NumberedRegion → List GuardTree → List Occurrence
amount_names k atoms = flat_map (counted_in (Some k)) atoms

abbrev pub action_names :
    NameScope → NumberedRegion → List GuardTree → TermTree → TermTree → List ComparisonTree
    → List Occurrence
action_names scope k atoms source target when =
    new_names scope (atom_names k atoms ++ unbound (term_words source
    ++ (term_words target ++ flat_map comparison_words when)))

abbrev pub action_names_part :
    NameScope → Option Word → Option Word → List Occurrence → List Finding
action_names_part bound source target new =
    map unknown_word (occurrence_words
    (filter (λ o. not (is_whole_with bound source target o)) new))
    ++ ret_findings new

abbrev pub whole_action_of :
    NumberedRegion → List Word → List Occurrence → List GuardTree → TermTree → TermTree
    → List ComparisonTree → List Finding
whole_action_of k parameters new atoms source target when =
    action_names_part (bound_entries (amount_names k atoms)) (whole_name source)
    (whole_name target) new
    ++ action_part k parameters
    (filter (is_whole_with (bound_entries (amount_names k atoms)) (whole_name source)
    (whole_name target)) new) atoms source target when

abbrev pub whole_action_part :
    NumberedRegion → List Word → List GuardTree → TermTree → TermTree → List ComparisonTree
    → List Finding
whole_action_part k parameters atoms source target when =
    flat_map (indices_findings (whole_numbers parameters) (whole_name source) (whole_name target))
    atoms
    ++ whole_action_of k parameters
    (action_names (whole_numbers parameters) k atoms source target when) atoms source target when
