-- For which program a tree stands, and which refusal it has.
use Rattle.std.specs.Prelude.{◌≡◌, codes, List, ◌++◌, map, flat_map, Option, Some, None, option_to_list}
use Rattle.cap_prog.specs.Program.{PlainProgram}
use Rattle.cap_prog.specs.WellFormed.{most_functions, most_regions}
use Rattle.cap_parse_tree.specs.declared.word.Word.{Word}
use Rattle.cap_parse_tree.specs.Tree.{RegionTree, FunctionTree, ProgramTree}
use Rattle.cap_resolve_spec.specs.Finding.{Finding, no_main, twice_word, first_finding, region_count, function_count}
use Rattle.cap_resolve_spec.specs.Parts.{regions, functions}
use Rattle.cap_resolve_spec.specs.Names.{repeated, past}
use Rattle.cap_resolve_spec.specs.Items.{numbered_regions}
use Rattle.cap_resolve_spec.specs.Regions.{region_type_findings}
use Rattle.cap_resolve_spec.specs.Functions.{function_findings, function_named, main_findings}
use Rattle.cap_resolve_spec.specs.Program.{program_of}

abbrev pub region_word : RegionTree → Word
region_word r = r.name

abbrev pub function_word : FunctionTree → Word
function_word f = f.name

abbrev pub main_of : ProgramTree → Option FunctionTree
main_of t = function_named (functions t) (codes "main")

-- all that is wrong in a tree, but for a missing `main`
abbrev pub findings : ProgramTree → List Finding
findings t =
    map twice_word
    (repeated (map region_word (regions t)) ++ repeated (map function_word (functions t)))
    ++ (past most_regions region_count (map region_word (regions t))
    ++ (past most_functions function_count (map function_word (functions t))
    ++ (flat_map (region_type_findings (regions t)) (numbered_regions (regions t))
    ++ (flat_map (function_findings (regions t) (functions t)) (functions t)
    ++ flat_map main_findings (option_to_list (main_of t))))))

abbrev pub main_missing : Option FunctionTree → Option Finding
main_missing None = Some (record { place = record { line = 1; column = 1 }; cause = no_main })
main_missing (Some f) = None

-- a missing `main` counts only where nothing else is wrong
abbrev pub or_else : Option Finding → Option Finding → Option Finding
or_else (Some f) other = Some f
or_else None other = other

abbrev pub refusal : ProgramTree → Option Finding
refusal t = or_else (first_finding (findings t)) (main_missing (main_of t))

-- the tree stands for the program
pub record Stands (t : ProgramTree) (p : PlainProgram) : Type 0 where
  pub unrefused : refusal t ≡ None
  pub same : p ≡ program_of t
