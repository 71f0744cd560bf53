-- What is wrong in a text, by the lists of its region types and functions.
use Rattle.std.specs.Prelude.{codes, List, ◌++◌, map, flat_map, Option, option_map, option_to_list}
use Rattle.std.specs.Borrow.{Bor}
use Rattle.cap_prog.specs.WellFormed.{most_functions, most_regions}
use Rattle.cap_parse_tree.specs.declared.word.Word.{Word}
use Rattle.cap_parse_tree.specs.declared.assertion.Item.{Item}
use Rattle.cap_parse_tree.specs.Tree.{ItemTree, RegionTree, FunctionTree}
use Rattle.cap_parse_tree.specs.Views.{item_view}
use Rattle.cap_resolve_spec.specs.Finding.{Finding, main_precondition, twice_word, region_count, function_count}
use Rattle.cap_resolve_spec.specs.Parts.{item_place}
use Rattle.cap_resolve_spec.specs.Names.{repeated, past}
use Rattle.cap_resolve_spec.specs.Items.{numbered_regions}
use Rattle.cap_resolve_spec.specs.Regions.{region_type_findings}
use Rattle.cap_resolve_spec.specs.Functions.{function_findings, function_named, main_findings}
use Rattle.cap_resolve_spec.specs.Stands.{region_word, function_word}

abbrev pub item_seen : Option (Bor Item) → Option ItemTree
item_seen i = option_map (λ (x : Bor Item). item_view x.now) i

-- items of the precondition of `main` that ask for more than cells
abbrev pub asking_findings : List ItemTree → List Finding
asking_findings is = map (λ i. record { place = item_place i; cause = main_precondition }) is

abbrev pub main_part : List FunctionTree → List Finding
main_part fs = flat_map main_findings (option_to_list (function_named fs (codes "main")))

-- the names of region types and of functions
abbrev pub words_part : List Word → List Word → List Finding
words_part rs fs =
    map twice_word (repeated rs)
    ++ (map twice_word (repeated fs)
    ++ (past most_regions region_count rs ++ past most_functions function_count fs))

-- region types, functions and `main`
abbrev pub contents_part : List RegionTree → List FunctionTree → List Finding
contents_part rs fs =
    flat_map (region_type_findings rs) (numbered_regions rs)
    ++ (flat_map (function_findings rs fs) fs ++ main_part fs)

abbrev pub text_part : List RegionTree → List FunctionTree → List Finding
text_part rs fs =
    words_part (map region_word rs) (map function_word fs) ++ contents_part rs fs
