use Rattle.std.proofs.Common.{◌≡◌, ◌++◌, drop, map}
use Rattle.cap_parse_tree.specs.Tree.{parts_of}
use Rattle.cap_parse_tree.specs.Views.{comparison_view, several_view}
use Rattle.cap_resolve_spec.specs.Program.{comparison_program}
use Rattle.cap_resolve_functions.proofs.Rests.{behind}
use Rattle.cap_resolve_functions.proofs.comparisons.comparisons_in.Given as goal

abbrev pub invariant-loop-part : goal.invariant-loop-part
invariant-loop-part l =
    l.made.items ++ map (comparison_program l.scope) (behind comparison_view (drop l.part-index l.part-items))
    ≡ map (comparison_program l.scope) (parts_of (several_view comparison_view l.list))
