-- What is wrong in a function.
use Rattle.std.specs.Prelude.{ℕ, Bool, true, false, not, ◌&&◌, ◌||◌, ◌==◌, nat_lt, nat_le, if◌then◌else◌, codes, List, [], ◌∷◌, ◌++◌, map, length, flat_map, filter, filter_map, find, take, Option, Some, None, option_to_list}
use Rattle.std.specs.Str.{bytes_eq}
use Rattle.cap_lin.specs.declared.row.Sort.TheVariants.{Int}
use Rattle.cap_syntax.specs.declared.place.Place.{Place}
use Rattle.cap_prog.specs.WellFormed.{most_cells}
use Rattle.cap_parse_tree.specs.declared.word.Word.{Word}
use Rattle.cap_parse_tree.specs.declared.word.Literal.{Literal}
use Rattle.cap_parse_tree.specs.Tree.{ItemTree, fact, guards, choose, ClauseTree, TermTree, StatementTree, RegionTree, FunctionTree}
use Rattle.cap_resolve_spec.specs.Finding.{Finding, found_if, limit, cell_count, wrong_arity, main_precondition, unknown_word, twice_word}
use Rattle.cap_resolve_spec.specs.Parts.{PlacedItem, clause_parts, clause_items, item_place, block_parts, statement_terms, statement_comparison, statement_names, destination, invariant, callee, cells, parameters}
use Rattle.cap_resolve_spec.specs.Names.{KnownName, NameScope, known_as, whole_numbers, hidden, knows, is_among, firsts, is_ret, word_text, word_place, past_variables, parameters_findings}
use Rattle.cap_resolve_spec.specs.Terms.{WantedTerm, wanted_as, comparison_wanted, terms_findings}
use Rattle.cap_resolve_spec.specs.Items.{TypedName, types_told, Occurrence, name_of, occurrences, new_names, is_bound, scope_of, occurrence_words, ret_findings, item_wanted, item_findings}

-- ---- the names of a function

abbrev pub requires_types : List RegionTree → FunctionTree → List TypedName
requires_types rs f = types_told rs (clause_parts f.precondition)

abbrev pub requires_new : List RegionTree → FunctionTree → List Occurrence
requires_new rs f =
    new_names (whole_numbers (parameters f))
    (occurrences (requires_types rs f) (clause_parts f.precondition))

-- the names that `requires` fixes for the call
abbrev pub fixed_names : List RegionTree → FunctionTree → List Occurrence
fixed_names rs f = filter is_bound (requires_new rs f)

abbrev pub fixed_words : List RegionTree → FunctionTree → List Word
fixed_words rs f = occurrence_words (fixed_names rs f)

abbrev pub statements : FunctionTree → List StatementTree
statements f = block_parts f.body

abbrev pub clause_words : Option ClauseTree → List Word
clause_words c = occurrence_words (occurrences [] (clause_parts c))

-- all names of a statement, where they stand
abbrev pub statement_words : StatementTree → List Word
statement_words s =
    option_to_list (destination s) ++ (statement_names s ++ clause_words (invariant s))

abbrev pub destinations : FunctionTree → List Word
destinations f = filter_map destination (statements f)

abbrev pub is_local : List RegionTree → FunctionTree → Word → Bool
is_local rs f w =
    is_among (destinations f) w.text
    && (not (is_among (parameters f) w.text) && not (is_among (fixed_words rs f) w.text))

-- the destinations, by first appearance anywhere in the body
abbrev pub locals : List RegionTree → FunctionTree → List Word
locals rs f =
    firsts word_text (filter (is_local rs f) (flat_map statement_words (statements f)))

-- ---- scopes: parameters, locals, fixed names, `ret`, and the new names of the assertion at hand

abbrev pub requires_scope : List RegionTree → FunctionTree → NameScope
requires_scope rs f =
    whole_numbers (parameters f) ++ (hidden (locals rs f) ++ scope_of (fixed_names rs f))

abbrev pub result_entry : Option KnownName
result_entry = Some (record { name = codes "ret"; sort = Int })

abbrev pub result_scope : List RegionTree → FunctionTree → NameScope
result_scope rs f =
    whole_numbers (parameters f)
    ++ (hidden (locals rs f) ++ (scope_of (fixed_names rs f) ++ result_entry ∷ []))

abbrev pub loop_scope : List RegionTree → FunctionTree → NameScope
loop_scope rs f =
    whole_numbers (parameters f)
    ++ (whole_numbers (locals rs f) ++ (scope_of (fixed_names rs f) ++ None ∷ []))

-- a fixed name that is a destination is refused there, and known elsewhere in the body
abbrev pub name_in_body : FunctionTree → Occurrence → Option KnownName
name_in_body f o = if is_among (destinations f) (name_of o) then known_as o.sort o.word else None

abbrev pub body_scope : List RegionTree → FunctionTree → NameScope
body_scope rs f =
    whole_numbers (parameters f)
    ++ (whole_numbers (locals rs f) ++ map (name_in_body f) (fixed_names rs f))

-- What the parts of a function are read with: the declarations, the types that `requires` tells,
-- the names that are known in `ensures`, in invariants and in the body, the parameters and fixed
-- names, which are no destinations, and the places of the names that are counted with the new names
-- of each assertion.
pub record Context : Type 0 where
  pub regions : List RegionTree
  pub functions : List FunctionTree
  pub types : List TypedName
  pub result : NameScope
  pub loop : NameScope
  pub body : NameScope
  pub given : List Word
  pub counted : List Place

abbrev pub context_of : List RegionTree → List FunctionTree → FunctionTree → Context
context_of rs fs f = record {
  regions = rs;
  functions = fs;
  types = requires_types rs f;
  result = result_scope rs f;
  loop = loop_scope rs f;
  body = body_scope rs f;
  given = parameters f ++ fixed_words rs f;
  counted = map word_place (parameters f ++ (fixed_words rs f ++ locals rs f));
}

-- ---- `requires`, `ensures` and invariants

-- a new name must first occur in a binding position outside the sides
abbrev pub new_findings : List Occurrence → List Finding
new_findings os =
    map unknown_word (occurrence_words (filter (λ o. not o.bound) os)) ++ ret_findings os

abbrev pub items_findings :
    List RegionTree → List TypedName → NameScope → List PlacedItem → List Finding
items_findings rs types scope items =
    flat_map (λ i. item_findings rs None types scope i.1) items
    ++ terms_findings scope (flat_map (λ i. item_wanted types scope i.1) items)

abbrev pub requires_findings : List RegionTree → FunctionTree → List Finding
requires_findings rs f =
    new_findings (requires_new rs f)
    ++ items_findings rs (requires_types rs f) (requires_scope rs f) (clause_parts f.precondition)

-- `ensures` or an invariant, where these names are known; an absent one is `true`
abbrev pub clause_types : Context → Option ClauseTree → List TypedName
clause_types g c = g.types ++ types_told g.regions (clause_parts c)

abbrev pub clause_new : Context → NameScope → Option ClauseTree → List Occurrence
clause_new g known c = new_names known (occurrences (clause_types g c) (clause_parts c))

abbrev pub clause_bound : Context → NameScope → Option ClauseTree → List Occurrence
clause_bound g known c = filter is_bound (clause_new g known c)

abbrev pub clause_scope : Context → NameScope → Option ClauseTree → NameScope
clause_scope g known c = known ++ scope_of (clause_bound g known c)

abbrev pub clause_findings : Context → NameScope → Option ClauseTree → List Finding
clause_findings g known c =
    new_findings (clause_new g known c)
    ++ (past_variables (g.counted ++ map word_place (occurrence_words (clause_bound g known c)))
    ++ items_findings g.regions (clause_types g c) (clause_scope g known c) (clause_parts c))

-- an item of `requires` that is no comparison, cell, `true` or `false`
abbrev pub asks_for_more : ItemTree → Bool
asks_for_more (fact k p r args q s e) = true
asks_for_more (guards r p g) = true
asks_for_more (choose c p a q b) = true
asks_for_more _ = false

abbrev pub main_findings : FunctionTree → List Finding
main_findings f =
    map (λ i. record { place = item_place i; cause = main_precondition })
    (take 1 (filter asks_for_more (clause_items f.precondition)))

-- ---- the body

abbrev pub unknown_in : NameScope → List Word → List Finding
unknown_in scope ws = map unknown_word (filter (λ w. not (knows scope w.text)) ws)

-- of two declarations of one name the first counts
abbrev pub is_function : List ℕ → FunctionTree → Bool
is_function x f = bytes_eq x f.name.text

abbrev pub function_named : List FunctionTree → List ℕ → Option FunctionTree
function_named fs x = find (is_function x) fs

abbrev pub called_findings : Option FunctionTree → Word → List TermTree → List Finding
called_findings None w args = unknown_word w ∷ []
called_findings (Some f) w args =
    found_if (not (length (parameters f) == length args)) w.place wrong_arity

abbrev pub callee_findings : List FunctionTree → Word × List TermTree → List Finding
callee_findings fs c = called_findings (function_named fs c.0.text) c.0 c.1

abbrev pub cells_findings : Literal → List Finding
cells_findings n =
    found_if (not (nat_lt 0 n.value && nat_le n.value most_cells)) n.place (limit cell_count)

-- a destination may not be a parameter, a fixed name or `ret`
abbrev pub is_forbidden : Context → Word → Bool
is_forbidden g w = is_among g.given w.text || is_ret w.text

abbrev pub statement_wanted : NameScope → StatementTree → List WantedTerm
statement_wanted scope s =
    map (wanted_as (Some Int)) (statement_terms s)
    ++ flat_map (comparison_wanted scope) (option_to_list (statement_comparison s))

abbrev pub statement_findings : Context → StatementTree → List Finding
statement_findings g s =
    map twice_word (filter (is_forbidden g) (option_to_list (destination s)))
    ++ (unknown_in g.body (statement_names s)
    ++ (flat_map (callee_findings g.functions) (option_to_list (callee s))
    ++ (flat_map cells_findings (option_to_list (cells s))
    ++ (terms_findings g.body (statement_wanted g.body s)
    ++ clause_findings g g.loop (invariant s)))))

abbrev pub body_findings : Context → FunctionTree → List Finding
body_findings g f =
    clause_findings g g.result f.postcondition ++ flat_map (statement_findings g) (statements f)

abbrev pub function_findings : List RegionTree → List FunctionTree → FunctionTree → List Finding
function_findings rs fs f =
    parameters_findings (parameters f)
    ++ (requires_findings rs f ++ body_findings (context_of rs fs f) f)
