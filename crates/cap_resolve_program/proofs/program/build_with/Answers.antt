use Rattle.std.proofs.Common.{◌≡◌, ◌≤◌, [], List, length, flat_map, sym, subst}
use Rattle.std.specs.List.{AllByRecursion}
use Rattle.cap_prog.specs.WellFormed.{most_members}
use Rattle.cap_parse_tree.specs.Tree.{FunctionTree}
use Rattle.cap_parse_tree.specs.Views.{tree_view}
use Rattle.cap_resolve_spec.specs.Parts.{block_parts, regions}
use Rattle.cap_resolve_spec.specs.Functions.{function_findings}
use Rattle.cap_resolve_tables.specs.Tables.{functions_of}
use Rattle.cap_resolve_program.proofs.Unrefused.{in_functions}
use Rattle.cap_resolve_program.proofs.Counted.{functions_counted}
use Rattle.cap_resolve_program.proofs.program.build_with.Goals as goal

pub build_functions-requires-clause-right : goal.build_functions-requires-clause-right
build_functions-requires-clause-right c =
    subst (λ rs. flat_map (function_findings rs (functions_of c.args.functions.now)) (functions_of c.args.functions.now) ≡ []) (sym c.requires.regions)
    (subst (λ fs. flat_map (function_findings (regions (tree_view c.args.tree.now)) fs) fs ≡ []) (sym c.requires.functions)
    (in_functions (tree_view c.args.tree.now) c.requires.right))

pub build_functions-requires-clause-small : goal.build_functions-requires-clause-small
build_functions-requires-clause-small c =
    subst (λ (fs : List FunctionTree). AllByRecursion (λ (f : FunctionTree). length (block_parts f.body) ≤ most_members) fs) (sym c.requires.functions)
    (functions_counted (tree_view c.args.tree.now) c.requires.small)
