-- What the names of a function make of it.
use Rattle.std.specs.Prelude.{List, [], ◌∷◌, ◌++◌, map, filter, filter_map, flat_map, length, None}
use Rattle.cap_prog.specs.Program.{Name, PlainFunction}
use Rattle.cap_parse_tree.specs.declared.word.Word.{Word}
use Rattle.cap_parse_tree.specs.Tree.{StatementTree, RegionTree, FunctionTree}
use Rattle.cap_resolve_spec.specs.Parts.{PlacedItem, destination, block_parts}
use Rattle.cap_resolve_spec.specs.Names.{NameScope, whole_numbers, hidden, word_text}
use Rattle.cap_resolve_spec.specs.Items.{TypedName, types_told, Occurrence, occurrences, new_names, is_bound, scope_of, occurrence_words}
use Rattle.cap_resolve_spec.specs.Functions.{Context, statement_words, result_entry}
use Rattle.cap_resolve_spec.specs.Program.{occurrence_sorts, clause_program, new_assertion, body_program}
use Rattle.cap_resolve_scopes.specs.Lists.{firsts_known, known_entry}

abbrev pub fixed_in : List Word → List TypedName → List PlacedItem → List Occurrence
fixed_in ps types parts =
    filter is_bound (new_names (whole_numbers ps) (occurrences types parts))

abbrev pub locals_in : NameScope → List Word → List Occurrence → List StatementTree → List Word
locals_in destinations ps fixed statements =
    firsts_known destinations (whole_numbers ps ++ scope_of fixed)
    (flat_map statement_words statements)

abbrev pub variables_of : List Word → List Word → List Occurrence → List Name
variables_of ps ls fixed = map word_text (ps ++ (ls ++ occurrence_words fixed))

-- the names of a function: parameters, locals, fixed names, and a scope that knows its destinations
pub record Named : Type 0 where
  pub parameters : List Word
  pub locals : List Word
  pub fixed : List Occurrence
  pub destinations : NameScope

abbrev pub context_built : List RegionTree → List FunctionTree → List TypedName → Named → Context
context_built rs fs types n = record {
  regions = rs;
  functions = fs;
  types = types;
  result = [];
  loop = whole_numbers n.parameters
      ++ (whole_numbers n.locals ++ (scope_of n.fixed ++ None ∷ []));
  body = whole_numbers n.parameters
      ++ (whole_numbers n.locals ++ map (known_entry n.destinations) n.fixed);
  given = [];
  counted = [];
}

-- a function, where its body is read with this context
abbrev pub function_in : Context → Named → FunctionTree → PlainFunction
function_in g n f = record {
  name = f.name.text;
  params = length n.parameters;
  locals = length n.locals;
  fixed = occurrence_sorts n.fixed;
  variables = variables_of n.parameters n.locals n.fixed;
  requires = clause_program g.regions g.types
      (whole_numbers n.parameters ++ (hidden n.locals ++ scope_of n.fixed)) f.precondition;
  ensures = new_assertion g
      (whole_numbers n.parameters
      ++ (hidden n.locals ++ (scope_of n.fixed ++ result_entry ∷ []))) f.postcondition;
  body = body_program g f.body;
  place = f.key;
}

abbrev pub function_built :
    List RegionTree → List FunctionTree → List TypedName → Named → FunctionTree → PlainFunction
function_built rs fs types n f = function_in (context_built rs fs types n) n f

abbrev pub named_by : List Word → List Occurrence → List StatementTree → Named
named_by ps fixed statements = record {
  parameters = ps;
  locals = locals_in (whole_numbers (filter_map destination statements)) ps fixed statements;
  fixed = fixed;
  destinations = whole_numbers (filter_map destination statements);
}

-- a function with these parameters and these items of `requires`
abbrev pub function_by :
    List RegionTree → List FunctionTree → List Word → List PlacedItem → FunctionTree
    → PlainFunction
function_by rs fs ps parts f =
    function_built rs fs (types_told rs parts)
    (named_by ps (fixed_in ps (types_told rs parts) parts) (block_parts f.body)) f
