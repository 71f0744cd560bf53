use Rattle.std.proofs.Common.{◌<◌, ◌^◌, ◌∙◌, length, ap, sym, subst}
use Rattle.cap_parse_tree.specs.Views.{tree_view}
use Rattle.cap_resolve_spec.proofs.Short.{few-functions}
use Rattle.cap_resolve_parts.specs.Views.{functions_view}
use Rattle.cap_resolve_program.proofs.tables.functions_of_tree.Goals as goal

pub function_table-requires : goal.function_table-requires
function_table-requires c = subst (λ fs. length fs < 2 ^ 32) (sym (ap functions_view c.as_slice.ensures.value ∙ c.in_ok-found.ensures)) (few-functions (tree_view c.args.tree.now) c.requires)
