-- What is wrong in assertions and statements, by the lists of their parts.
use Rattle.std.specs.Prelude.{Bool, ◌||◌, List, ◌++◌, map, filter, flat_map, option_to_list}
use Rattle.cap_syntax.specs.declared.place.Place.{Place}
use Rattle.cap_parse_tree.specs.declared.word.Word.{Word}
use Rattle.cap_parse_tree.specs.Tree.{RegionTree, FunctionTree, StatementTree}
use Rattle.cap_resolve_spec.specs.Finding.{Finding, twice_word}
use Rattle.cap_resolve_spec.specs.Parts.{PlacedItem, destination, statement_names, callee, cells}
use Rattle.cap_resolve_spec.specs.Names.{NameScope, knows, is_ret, word_place, past_variables}
use Rattle.cap_resolve_spec.specs.Items.{TypedName, Occurrence, is_bound, scope_of, occurrence_words}
use Rattle.cap_resolve_spec.specs.Functions.{new_findings, items_findings, unknown_in, callee_findings, cells_findings, statement_wanted}
use Rattle.cap_resolve_spec.specs.Terms.{terms_findings}
use Rattle.cap_resolve_scopes.specs.Lists.{new_in}

-- names are counted with those whose places these are
abbrev pub counted_findings : List Place → List Occurrence → List Finding
counted_findings counted names = past_variables (counted ++ map word_place (occurrence_words names))

-- an assertion whose new names that are bound are these
abbrev pub bound_findings :
    List RegionTree → List TypedName → List Place → NameScope → List Occurrence → List PlacedItem
    → List Finding
bound_findings rs types counted known bound parts =
    counted_findings counted bound ++ items_findings rs types (known ++ scope_of bound) parts

-- an assertion where these names are known
abbrev pub assertion_findings :
    List RegionTree → List TypedName → List Place → NameScope → List PlacedItem → List Finding
assertion_findings rs types counted known parts =
    new_findings (new_in known types parts)
    ++ bound_findings rs types counted known (filter is_bound (new_in known types parts)) parts

abbrev pub is_forbidden_by : NameScope → Word → Bool
is_forbidden_by given w = knows given w.text || is_ret w.text

-- a statement without its invariant
abbrev pub own_findings :
    List FunctionTree → NameScope → NameScope → StatementTree → List Finding
own_findings fs given body s =
    map twice_word (filter (is_forbidden_by given) (option_to_list (destination s)))
    ++ (unknown_in body (statement_names s)
    ++ (flat_map (callee_findings fs) (option_to_list (callee s))
    ++ (flat_map cells_findings (option_to_list (cells s))
    ++ terms_findings body (statement_wanted body s))))
