use Rattle.std.proofs.Common.{◌≡◌, drop, map, filter_map, find, is_some}
use Rattle.std.specs.Prelude.{codes}
use Rattle.cap_parse_tree.specs.Views.{tree_view, declaration_view}
use Rattle.cap_resolve_spec.specs.Parts.{function_in}
use Rattle.cap_resolve_spec.specs.Functions.{is_function}
use Rattle.cap_resolve_spec.specs.Stands.{main_of}
use Rattle.cap_resolve_text.proofs.trees.has_main.Given as goal

abbrev pub invariant-loop-declaration : goal.invariant-loop-declaration
invariant-loop-declaration l =
    is_some (find (is_function (codes "main")) (filter_map function_in (map declaration_view (drop l.declaration-index l.declaration-items))))
    ≡ is_some (main_of (tree_view l.tree))
