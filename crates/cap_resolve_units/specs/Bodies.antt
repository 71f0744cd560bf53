-- What is wrong in a function, by what is known in its parts.
use Rattle.std.specs.Prelude.{List, [], ◌∷◌, ◌++◌, map, filter, flat_map, filter_map, Option, None}
use Rattle.cap_syntax.specs.declared.place.Place.{Place}
use Rattle.cap_parse_tree.specs.declared.word.Word.{Word}
use Rattle.cap_parse_tree.specs.Tree.{ClauseTree, StatementTree, RegionTree, FunctionTree}
use Rattle.cap_resolve_spec.specs.Finding.{Finding}
use Rattle.cap_resolve_spec.specs.Parts.{PlacedItem, destination}
use Rattle.cap_resolve_spec.specs.Names.{NameScope, whole_numbers, hidden, word_place, parameters_findings}
use Rattle.cap_resolve_spec.specs.Items.{TypedName, types_told, Occurrence, is_bound, scope_of, occurrence_words}
use Rattle.cap_resolve_spec.specs.Functions.{new_findings, items_findings, result_entry, statement_words}
use Rattle.cap_resolve_scopes.specs.Lists.{new_in, firsts_known, known_entry}
use Rattle.cap_resolve_units.specs.Parts.{clause_part, statement_part}

-- `ensures` and the statements, where these names are known
abbrev pub read_part :
    List RegionTree → List FunctionTree → List TypedName → List Place → NameScope → NameScope
    → NameScope → NameScope → Option ClauseTree → List StatementTree → List Finding
read_part rs fs types counted given outcome looped body post ss =
    clause_part rs types counted outcome post
    ++ flat_map (statement_part rs fs types counted given looped body) ss

-- the same by parameters, locals and fixed names
abbrev pub body_part :
    List RegionTree → List FunctionTree → List TypedName → List Place → NameScope → NameScope
    → List Word → List Word → List Occurrence → Option ClauseTree → List StatementTree
    → List Finding
body_part rs fs types counted given dests params locals fixed post ss =
    read_part rs fs types counted given
    (whole_numbers params ++ (hidden locals ++ (scope_of fixed ++ result_entry ∷ [])))
    (whole_numbers params ++ (whole_numbers locals ++ (scope_of fixed ++ None ∷ [])))
    (whole_numbers params ++ (whole_numbers locals ++ map (known_entry dests) fixed)) post ss

-- the items of `requires`
abbrev pub requires_part :
    List RegionTree → List TypedName → List Word → List Word → List Occurrence
    → List PlacedItem → List Finding
requires_part rs types params locals fixed parts =
    items_findings rs types (whole_numbers params ++ (hidden locals ++ scope_of fixed)) parts

abbrev pub locals_part :
    List RegionTree → List FunctionTree → List TypedName → List Word → List Occurrence
    → List Word → NameScope → NameScope → List Word → List PlacedItem → Option ClauseTree
    → List StatementTree → List Finding
locals_part rs fs types params fixed words given dests locals parts post ss =
    requires_part rs types params locals fixed parts
    ++ body_part rs fs types (map word_place (words ++ locals)) given dests params locals fixed
    post ss

abbrev pub fixed_part :
    List RegionTree → List FunctionTree → List TypedName → List Word → List Occurrence
    → List PlacedItem → Option ClauseTree → List StatementTree → List Finding
fixed_part rs fs types params fixed parts post ss =
    locals_part rs fs types params fixed (params ++ occurrence_words fixed)
    (whole_numbers (params ++ occurrence_words fixed)) (whole_numbers (filter_map destination ss))
    (firsts_known (whole_numbers (filter_map destination ss))
    (whole_numbers (params ++ occurrence_words fixed)) (flat_map statement_words ss))
    parts post ss

abbrev pub typed_part :
    List RegionTree → List FunctionTree → List TypedName → List Word → List PlacedItem
    → Option ClauseTree → List StatementTree → List Finding
typed_part rs fs types params parts post ss =
    new_findings (new_in (whole_numbers params) types parts)
    ++ fixed_part rs fs types params (filter is_bound (new_in (whole_numbers params) types parts))
    parts post ss

abbrev pub function_part :
    List RegionTree → List FunctionTree → List Word → List PlacedItem → Option ClauseTree
    → List StatementTree → List Finding
function_part rs fs params parts post ss =
    parameters_findings params ++ typed_part rs fs (types_told rs parts) params parts post ss
